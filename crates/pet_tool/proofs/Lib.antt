pub mod Telling
pub mod Ends
pub mod NoMemory
pub mod LinesTold
pub mod SessionSent
pub mod Headline
pub mod BytesReceived
pub mod Owed
