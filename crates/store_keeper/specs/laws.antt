pub mod KeepLaws
pub mod GateLaws
