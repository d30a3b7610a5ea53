pub mod RunLaws
pub mod CutLaws
pub mod EndedLaws
pub mod PaddedLaws
