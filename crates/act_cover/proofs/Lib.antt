pub mod PutFacts
pub mod LevelFacts
pub mod Placed
pub mod Greatest
pub mod Holding
pub mod Ascending
