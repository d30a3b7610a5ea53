mod CameSoFar
mod Kept
mod Ends
mod Uncounted
mod Openings
mod Telling
mod WordsRead
