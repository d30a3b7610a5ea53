pub mod PayloadLaws
pub mod RangeLaws
pub mod SessionLaws
pub mod SentLaws
