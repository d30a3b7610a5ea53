pub mod SearchLemmas
pub mod LayerLemmas
pub mod LongestLemmas
pub mod RunLemmas
pub mod MeetingLemmas
pub mod CountLemmas
pub mod PlanLemmas
pub mod TableLemmas
