mod ByCounts
pub mod Searched
