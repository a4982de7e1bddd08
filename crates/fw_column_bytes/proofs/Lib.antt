pub mod Written
pub mod Copied
pub mod PartsFormat
pub mod RowsRead
pub mod WholeFacts
pub mod SpelledFacts
pub mod ColumnFacts
pub mod ColumnsTaken
pub mod ColumnsAgain
pub mod DirectFacts
mod InRange
