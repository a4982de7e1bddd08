pub mod Coverage
pub mod Tallies
