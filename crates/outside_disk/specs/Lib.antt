pub mod Disk
pub mod Calls
pub mod Events
pub mod Memory
pub mod laws
