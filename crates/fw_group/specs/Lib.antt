pub mod Items
pub mod Limits
pub mod Answers
pub mod HandView
pub mod Steps
pub mod Turns
pub mod Runs
pub mod Laws
