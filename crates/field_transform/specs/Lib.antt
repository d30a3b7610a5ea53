pub mod Basis
pub mod Subspaces
pub mod Constants
pub mod Steps
pub mod inside
pub mod laws
