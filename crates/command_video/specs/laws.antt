pub mod MetGroups
pub mod GroupOfStream
pub mod VideosOfStream
pub mod WholeStream
pub mod PiecesShown
pub mod SessionVideo
