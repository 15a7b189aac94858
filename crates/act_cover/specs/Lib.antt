pub mod Covering
pub mod Level
pub mod Order
pub mod Held
pub mod Lending
