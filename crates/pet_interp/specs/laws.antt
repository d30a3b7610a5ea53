pub mod ProgressiveLaws
