pub mod Written
pub mod LaneMaps
pub mod FourNibbles
pub mod FourPlaces
pub mod Words
