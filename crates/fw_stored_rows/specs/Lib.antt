pub mod Starts
pub mod StoredView
pub mod Comparing
pub mod Runs
