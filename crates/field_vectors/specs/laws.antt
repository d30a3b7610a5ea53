pub mod WordLaws
pub mod NibbleLaws
pub mod LaneLaws
pub mod LoopLaws
