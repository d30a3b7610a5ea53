pub mod Arrivals
pub mod ShownBytes
pub mod Receiving
pub mod UnionSteps
pub mod Tags
pub mod inside
pub mod laws
