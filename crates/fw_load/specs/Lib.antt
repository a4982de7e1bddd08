pub mod Loads
pub mod Files
pub mod Left
