pub mod Nibbles
pub mod Spread
pub mod inside
pub mod laws
