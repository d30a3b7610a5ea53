pub mod FrontLaws
pub mod StepLaws
