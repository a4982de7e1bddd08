pub mod FindFacts
pub mod OwnedFacts
