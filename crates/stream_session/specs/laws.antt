pub mod TableLaws
pub mod FormatLaws
pub mod FitLaws
pub mod SessionLaws
pub mod MarkLaws
pub mod MessageLaws
pub mod SessionOfLaws
