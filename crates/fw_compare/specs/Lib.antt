pub mod Comparison
pub mod Costs
pub mod Groups
pub mod Shares
pub mod Shown
pub mod Ranges
