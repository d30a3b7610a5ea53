pub mod OpenGroup
pub mod ShownBytes
pub mod Stored
pub mod Tags
pub mod inside
pub mod laws
pub mod Written
