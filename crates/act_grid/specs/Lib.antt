pub mod Limits
pub mod Number
pub mod Hull
pub mod Cell
pub mod CellLaws
pub mod Spaced
pub mod Layers
