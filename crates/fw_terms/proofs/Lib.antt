pub mod Costs
pub mod Ranges
pub mod Items
pub mod Utf8
pub mod GroupFacts
pub mod Adding
