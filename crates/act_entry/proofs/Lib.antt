pub mod RefFacts
pub mod EntryFacts
pub mod ListFacts
