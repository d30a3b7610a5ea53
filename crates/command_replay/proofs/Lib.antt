pub mod HeldSession
pub mod HeldGroups
pub mod ReplayCauses
pub mod PlayedEvents
pub mod LinesOfWorld
