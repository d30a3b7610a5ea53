pub mod StoreVideo
pub mod Videos
pub mod Ends
pub mod StreamVideo
pub mod VideosSession
pub mod inside
pub mod laws
