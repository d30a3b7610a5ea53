pub mod CutGroups
pub mod Cutting
pub mod laws
