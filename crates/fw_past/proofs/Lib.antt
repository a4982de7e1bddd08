pub mod PastFacts
pub mod ReplayFacts
pub mod FrontFacts
