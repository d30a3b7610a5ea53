pub mod OtherWords
pub mod PlainNumbers
pub mod SessionBytes
