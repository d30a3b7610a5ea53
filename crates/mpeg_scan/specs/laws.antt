pub mod StandingLaws
pub mod OpenerLaws
pub mod EndedLaws
