pub mod ReplayLines
pub mod SampleLines
