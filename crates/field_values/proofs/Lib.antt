mod CosetRows
pub mod RowAfterRow
mod RowLanes
mod TransformedRows
