pub mod Field
pub mod Carryless
pub mod BinaryField
pub mod Gf16
pub mod laws
