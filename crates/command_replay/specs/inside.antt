pub mod Held
pub mod Playing
pub mod Reading
