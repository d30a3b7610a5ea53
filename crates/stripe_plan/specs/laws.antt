pub mod StripeLaws
pub mod SameLaws
pub mod ByteLaws
pub mod CountLaws
