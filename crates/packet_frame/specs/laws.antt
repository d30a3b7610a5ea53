pub mod Formats
pub mod LayerLaws
pub mod Passed
pub mod Spelled
pub mod Written
pub mod Again
pub mod Laws
pub mod PlannedLaws
