pub mod Sight
pub mod Counting
