pub mod Ending
pub mod Looking
pub mod Further
pub mod Reading
pub mod Held
