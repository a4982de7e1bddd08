pub mod Times
pub mod Shown
pub mod Periods
