pub mod BackFacts
pub mod ListFacts
pub mod Names
pub mod ReadFacts
pub mod Steps
