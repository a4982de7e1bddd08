pub mod CountFacts
pub mod KnownFacts
pub mod FieldFacts
pub mod FaultFacts
pub mod AnswerFacts
mod RepeatFacts
mod HeaderFacts
mod HeaderLaw
