pub mod Amounts
pub mod Shares
pub mod Shown
