pub mod OneReceiver
pub mod Known
pub mod FewLayers
pub mod OneEvent
pub mod GiveSteps
pub mod JoinSteps
pub mod ReopenSteps
pub mod Begun
