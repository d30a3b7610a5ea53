pub mod Video
pub mod Leading
pub mod inside
pub mod laws
