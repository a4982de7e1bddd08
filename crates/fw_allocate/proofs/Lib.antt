pub mod Rising
pub mod Amounts
pub mod GroupFacts
pub mod GiftFacts
pub mod ChargeFacts
pub mod Unique
pub mod Totals
pub mod Balance
