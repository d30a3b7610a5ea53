pub mod InputLaws
pub mod OutputLaws
pub mod PartLaws
pub mod PrintedLaws
pub mod WroteLaws
pub mod FailureLaws
