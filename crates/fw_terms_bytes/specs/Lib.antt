pub mod Reading
pub mod FieldView
