pub mod Codes
pub mod Meanings
pub mod Whole
pub mod Calls
pub mod Written
pub mod Answers
pub mod Lending
pub mod Runs
