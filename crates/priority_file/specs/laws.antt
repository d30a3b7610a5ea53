pub mod OnlyOne
pub mod PriorityLaws
