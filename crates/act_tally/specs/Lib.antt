pub mod Fair
pub mod Steps
pub mod Tokens
