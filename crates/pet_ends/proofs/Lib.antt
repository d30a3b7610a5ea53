pub mod Popped
pub mod Written
