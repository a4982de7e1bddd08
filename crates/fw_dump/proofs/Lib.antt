pub mod Behind
pub mod Sent
pub mod Restored
