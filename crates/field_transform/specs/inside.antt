pub mod Columnwise
pub mod Trees
