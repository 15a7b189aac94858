pub mod References
pub mod Entries
pub mod Lists
