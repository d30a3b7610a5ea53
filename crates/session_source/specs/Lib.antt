pub mod Sources
pub mod inside
pub mod laws
