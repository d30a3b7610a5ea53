pub mod ArrivalLaws
pub mod StartCodeLaws
pub mod AcceptedLaws
pub mod SamplePriorityLaws
pub mod PieceLaws
pub mod GroupLaws
pub mod SessionLaws
