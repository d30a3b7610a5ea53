pub mod Entry
pub mod Turns
pub mod Heads
pub mod Ends
pub mod Opens
pub mod Adding
