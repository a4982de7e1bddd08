pub mod Viewed
pub mod Chosen
pub mod SegmentFormat
pub mod HeadFormat
pub mod StateFormat
pub mod Replay
pub mod Histories
pub mod Decoded
mod RowsLoop
