pub mod Joining
pub mod Orders
pub mod Replaying
