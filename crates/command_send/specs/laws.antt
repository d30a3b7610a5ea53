pub mod ByteLaws
pub mod EndLaws
pub mod FileLaws
