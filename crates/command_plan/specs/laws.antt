pub mod PlanLaws
pub mod PlanFileLaws
pub mod CheckLaws
