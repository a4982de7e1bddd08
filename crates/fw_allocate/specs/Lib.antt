pub mod Costs
pub mod Charges
pub mod GiftView
