mod Columns
mod LaidWords
mod Made
mod Message
mod Payloads
pub mod Ranges
mod Walk
