pub mod Above
pub mod SizesBy
pub mod Tabled
pub mod OneGroupMore
pub mod Planned
pub mod Passed
pub mod KeptInOrder
