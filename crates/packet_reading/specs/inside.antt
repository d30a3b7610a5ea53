pub mod Opened
pub mod SoFar
