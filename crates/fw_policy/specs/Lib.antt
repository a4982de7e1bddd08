pub mod FieldNames
pub mod Policy
pub mod Parts
