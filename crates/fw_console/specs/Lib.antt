pub mod Statuses
pub mod Summaries
