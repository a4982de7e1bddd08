pub mod Refusals
pub mod RefusalsView
