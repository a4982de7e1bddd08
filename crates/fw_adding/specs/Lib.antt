pub mod Adding
pub mod Matching
pub mod Fields
