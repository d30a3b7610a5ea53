pub mod TwoNibbles
pub mod Powers
