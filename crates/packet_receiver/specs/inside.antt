pub mod Counted
pub mod Joining
pub mod Receiving
