pub mod LineLaws
pub mod NamedOnce
pub mod SessionReceived
pub mod NamedLaws
