pub mod Dealt
pub mod Asked
pub mod Added
pub mod Places
pub mod Refusals
pub mod Charged
pub mod Entries
