pub mod Commands
pub mod Hours
pub mod Lines
pub mod Plain
pub mod Splits
pub mod Whole
pub mod Words
