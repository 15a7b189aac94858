pub mod Sums
pub mod Drawing
pub mod Holding
pub mod Calls
