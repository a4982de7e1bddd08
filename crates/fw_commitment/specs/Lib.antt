pub mod FieldNames
pub mod Fields
pub mod Rules
pub mod Reading
pub mod Finding
pub mod Parts
pub mod Added
