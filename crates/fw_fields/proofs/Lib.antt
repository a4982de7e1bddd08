pub mod FieldFormats
pub mod RowFacts
pub mod RowOfFields
pub mod Written
