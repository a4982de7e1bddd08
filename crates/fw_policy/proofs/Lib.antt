pub mod CheckFacts
pub mod FieldFacts
pub mod SearchFacts
pub mod TargetFacts
pub mod RuleFacts
pub mod OneReading
pub mod PolicyFacts
pub mod TextFacts
