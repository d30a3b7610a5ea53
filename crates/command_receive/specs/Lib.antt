pub mod Failures
pub mod Opened
pub mod Receives
pub mod ReceivesSession
pub mod NamedLayers
pub mod inside
pub mod laws
