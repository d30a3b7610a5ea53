pub mod PaddedLaws
pub mod StepLaws
pub mod BinarySubspaces
pub mod Gf16Subspaces
