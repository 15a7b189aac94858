pub mod Times
pub mod Span
