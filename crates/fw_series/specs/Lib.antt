pub mod Sums
pub mod Series
pub mod Report
pub mod Top
pub mod Lines
pub mod Escapes
