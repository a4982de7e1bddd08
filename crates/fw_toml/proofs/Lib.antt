pub mod KindFacts
pub mod NameFacts
pub mod ListFacts
pub mod Readings
