pub mod AddedRows
pub mod AnyField
pub mod Parts
pub mod FirstBlocks
pub mod Pushed
pub mod LayingOut
