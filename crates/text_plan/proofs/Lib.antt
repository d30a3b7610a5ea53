pub mod Pieces
pub mod Rows
pub mod Parts
pub mod PlanTexts
pub mod HexDigits
