pub mod Reading
pub mod Row
