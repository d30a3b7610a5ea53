pub mod Failures
pub mod Inputs
pub mod Outputs
pub mod Portions
pub mod Printed
pub mod Uses
pub mod Wrote
pub mod laws
