pub mod Amount
pub mod Number
pub mod Nearest
pub mod Reading
pub mod Scan
pub mod Rounding
pub mod Shown
pub mod Writing
