pub mod FileFacts
pub mod Grown
pub mod LeftFacts
pub mod Sent
