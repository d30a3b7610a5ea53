pub mod KeepCompleted
