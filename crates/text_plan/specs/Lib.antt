pub mod PlanLines
pub mod PlanFile
pub mod PlanText
pub mod LayerLines
pub mod inside
pub mod laws
