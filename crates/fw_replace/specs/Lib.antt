pub mod Posts
pub mod Own
pub mod OwnView
pub mod Summaries
pub mod Matching
pub mod Replacing
