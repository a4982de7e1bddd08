pub mod JoiningFacts
pub mod OrderFacts
pub mod ReplayFacts
