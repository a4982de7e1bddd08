pub mod Parts
pub mod Sheets
