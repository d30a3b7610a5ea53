pub mod Coded
pub mod Job
pub mod Second
pub mod SendParts
pub mod Sending
