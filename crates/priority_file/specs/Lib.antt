pub mod Kinds
pub mod Priority
pub mod Document
pub mod Draft
pub mod Bounds
pub mod Refusals
pub mod inside
pub mod laws
