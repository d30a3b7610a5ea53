pub mod Failures
pub mod Sending
pub mod Sends
pub mod SendsBytes
pub mod SendsSession
pub mod inside
pub mod laws
