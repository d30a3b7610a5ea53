pub mod Digits
pub mod laws
