pub mod Begun
pub mod DatagramsSoFar
pub mod FilesRead
pub mod Stops
