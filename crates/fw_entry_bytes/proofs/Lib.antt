pub mod Facts
pub mod FormFacts
pub mod EntryFormat
pub mod WholeFormat
pub mod EntrySteps
