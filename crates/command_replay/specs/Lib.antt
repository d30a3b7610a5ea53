pub mod ReplayText
pub mod Scripts
pub mod Replays
pub mod Replayed
pub mod Ends
pub mod inside
pub mod laws
