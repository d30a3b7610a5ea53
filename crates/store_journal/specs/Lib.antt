pub mod Text
pub mod AtRest
pub mod Receives
pub mod Opening
pub mod inside
pub mod laws
