pub mod Spelling
pub mod Reading
pub mod PartsView
pub mod Fits
pub mod Kept
pub mod Rows
pub mod Spelled
