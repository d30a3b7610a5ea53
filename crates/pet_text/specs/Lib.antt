pub mod Words
pub mod KeepWords
pub mod Ends
pub mod Lines
pub mod Told
pub mod inside
pub mod laws
