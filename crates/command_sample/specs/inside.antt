pub mod Making
pub mod Receiving
