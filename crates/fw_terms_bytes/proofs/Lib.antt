pub mod Formats
pub mod PolicyFormat
pub mod CommitmentFormat
pub mod AddedFormat
