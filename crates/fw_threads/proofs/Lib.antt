pub mod Captures
pub mod Fronts
pub mod Posts
pub mod Right
pub mod Sent
pub mod Shown
pub mod Snapshots
