pub mod Aes
pub mod Own
pub mod laws
