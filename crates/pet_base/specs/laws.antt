pub mod SeenLaws
pub mod EntriesLaws
pub mod FrontLaws
pub mod Through
