pub mod TableRead
pub mod TableFits
pub mod VideoOfCut
pub mod RunsOnEnd
pub mod WholeVideo
pub mod MessageLayers
