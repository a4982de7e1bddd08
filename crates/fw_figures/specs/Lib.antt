pub mod Prices
pub mod Sums
pub mod Units
