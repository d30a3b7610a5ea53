pub mod ReceivedSets
pub mod World
pub mod laws
pub mod inside
