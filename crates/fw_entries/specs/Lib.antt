pub mod RowsLeft
pub mod EntriesLeft
pub mod Taking
pub mod Runs
