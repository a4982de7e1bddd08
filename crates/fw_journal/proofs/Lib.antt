pub mod Images
pub mod Parsing
pub mod Spelling
pub mod Walk
