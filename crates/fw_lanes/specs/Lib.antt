pub mod Masked
pub mod Halves
