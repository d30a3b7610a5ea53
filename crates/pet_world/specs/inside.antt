pub mod EventDone
pub mod Receivers
