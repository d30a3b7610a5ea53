pub mod StartCodes
pub mod Refusals
pub mod Pieces
pub mod Scanning
pub mod inside
pub mod laws
