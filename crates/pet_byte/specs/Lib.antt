pub mod Failures
pub mod ReceivesBytes
pub mod BytesReceived
pub mod inside
pub mod laws
