pub mod Way
pub mod Address
pub mod Bound
pub mod Coming
pub mod RouteFaults
pub mod Sending
pub mod laws
