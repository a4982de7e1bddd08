pub mod Frames
pub mod Log
