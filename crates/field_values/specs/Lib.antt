pub mod Matrix
pub mod Wide
pub mod laws
