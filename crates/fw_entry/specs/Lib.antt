pub mod Entry
pub mod Kinds
pub mod Spelling
pub mod View
pub mod Refusals
