pub mod Lifted
pub mod Newton
