pub mod Currencies
pub mod Tags
pub mod Charge
pub mod ChargeView
pub mod Codes
pub mod Spelling
