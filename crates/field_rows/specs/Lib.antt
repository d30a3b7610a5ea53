pub mod Columns
pub mod Stripes
pub mod Blocks
pub mod laws
