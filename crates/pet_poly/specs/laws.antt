pub mod Quotient
pub mod Roots
pub mod InPlaceLaws
pub mod RowLaws
pub mod HornerLaws
