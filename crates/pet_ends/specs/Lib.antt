pub mod Steady
pub mod Untold
pub mod Waits
pub mod laws
