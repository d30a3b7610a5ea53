pub mod Message
pub mod Making
pub mod Repairs
pub mod Rebuilding
pub mod MadeRange
pub mod laws
