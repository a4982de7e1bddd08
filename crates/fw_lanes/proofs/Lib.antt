pub mod Halves
mod ByCode
mod Masks
