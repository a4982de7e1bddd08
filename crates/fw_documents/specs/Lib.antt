pub mod Kinds
pub mod Documents
