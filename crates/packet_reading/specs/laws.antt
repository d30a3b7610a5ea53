pub mod BegunLaws
pub mod ReadLaws
pub mod SessionLaws
