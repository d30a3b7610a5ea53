pub mod Runs
pub mod Layers
