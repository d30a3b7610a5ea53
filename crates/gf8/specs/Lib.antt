pub mod Gf8
pub mod Nibbles
pub mod Constants
pub mod inside
pub mod laws
