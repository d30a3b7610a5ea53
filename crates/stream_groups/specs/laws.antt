pub mod StandingLaws
pub mod EndedLaws
pub mod CuttingLaws
pub mod FittingLaws
pub mod FilledLaws
