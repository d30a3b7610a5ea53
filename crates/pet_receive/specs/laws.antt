pub mod StepLaws
