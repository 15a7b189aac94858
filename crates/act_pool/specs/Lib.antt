pub mod Retired
pub mod Pooled
