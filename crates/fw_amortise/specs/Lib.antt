pub mod Amount
pub mod LineValue
pub mod LineView
pub mod Lines
pub mod Adding
pub mod Carrying
pub mod Sources
