pub mod WordLaws
pub mod ToldLaws
