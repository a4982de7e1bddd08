pub mod ListFacts
pub mod EntryLimits
pub mod KeptFacts
pub mod NumberFacts
pub mod AcceptedFacts
pub mod CursorFacts
