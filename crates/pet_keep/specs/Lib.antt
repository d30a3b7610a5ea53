pub mod Statuses
pub mod Journaled
pub mod Keeps
pub mod Runs
pub mod Starts
pub mod inside
pub mod laws
