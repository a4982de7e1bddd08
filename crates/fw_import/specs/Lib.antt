pub mod Ahead
pub mod Importer
pub mod ImporterView
pub mod Importing
pub mod Sending
pub mod Keeping
