pub mod PriorityFound
pub mod EachRead
pub mod Tables
pub mod ReadingLaws
pub mod KindLaws
pub mod Accepted
pub mod ListWalks
