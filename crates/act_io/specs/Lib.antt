pub mod Causes
pub mod Bytes
pub mod Streams
pub mod Memory
pub mod Standard
