pub mod InOrder
pub mod ManyEvents
pub mod ShownOnce
