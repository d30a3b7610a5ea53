pub mod Feeding
pub mod Unwrapping
