pub mod Moments
pub mod Others
mod Outcomes
mod Ranges
mod Record
mod Series
mod Stops
