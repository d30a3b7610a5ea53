pub mod RangeLaws
pub mod MessageLaws
pub mod KeptFrames
pub mod RebuiltLaws
pub mod UnlikeLaws
