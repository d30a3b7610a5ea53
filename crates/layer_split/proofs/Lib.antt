pub mod Placing
pub mod Tabling
pub mod Running
pub mod Totals
pub mod Holding
pub mod Adding
pub mod Beginning
pub mod Rebasing
