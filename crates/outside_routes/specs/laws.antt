pub mod ComingLaws
pub mod SendingLaws
