pub mod Waiting
pub mod Tidy
