pub mod Compacted
pub mod ByHead
pub mod Cursor
