pub mod Arrivals
pub mod ShownBytes
pub mod UnionSteps
pub mod Tags
pub mod laws
