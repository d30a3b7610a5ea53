pub mod Format
pub mod Frame
pub mod Refusals
pub mod Planned
pub mod View
pub mod Reading
pub mod inside
pub mod laws
