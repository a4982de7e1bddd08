pub mod Fronts
pub mod Posts
pub mod Told
pub mod Flushed
