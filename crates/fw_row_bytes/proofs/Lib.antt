pub mod RowFormat
