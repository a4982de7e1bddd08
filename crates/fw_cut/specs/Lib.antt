pub mod Places
pub mod Records
pub mod Cutting
pub mod Headers
pub mod Parts
