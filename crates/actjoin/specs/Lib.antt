pub mod Faults
pub mod Ends
pub mod Demo
pub mod Showing
