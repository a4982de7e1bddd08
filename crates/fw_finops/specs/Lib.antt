pub mod Prices
pub mod Usable
pub mod Lines
pub mod Costs
pub mod Listed
