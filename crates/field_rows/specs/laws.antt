pub mod ColumnLaws
pub mod StripeLaws
pub mod BlockLaws
pub mod PlaceLaws
