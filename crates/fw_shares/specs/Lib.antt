pub mod Shares
pub mod Dealing
