pub mod Reading
pub mod PlainNumbers
pub mod KeepForms
