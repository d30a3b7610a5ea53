pub mod ScriptLaws
pub mod EventLaws
pub mod ReplayLaws
