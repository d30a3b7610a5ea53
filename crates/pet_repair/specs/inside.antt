pub mod Groups
pub mod Handed
pub mod Arrivals
pub mod RelaySoFar
pub mod RelayEnds
