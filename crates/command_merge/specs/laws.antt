pub mod SessionMerged
