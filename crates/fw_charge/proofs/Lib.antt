pub mod TagFacts
pub mod Fitting
pub mod CodeFacts
pub mod ChargeFacts
