pub mod Form
pub mod Store
pub mod Refusals
pub mod Files
pub mod laws
