mod FilesRead
mod Stops
mod Ends
