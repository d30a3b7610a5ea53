pub mod Merges
pub mod MergesSession
pub mod Ends
pub mod laws
