pub mod Journal
pub mod Keeper
pub mod laws
