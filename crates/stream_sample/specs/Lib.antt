pub mod Filler
pub mod SampleStream
pub mod laws
