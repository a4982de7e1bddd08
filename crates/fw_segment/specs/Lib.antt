pub mod Decoding
pub mod Groups
pub mod Segments
pub mod Heads
pub mod HeadView
pub mod States
pub mod FaultPlace
