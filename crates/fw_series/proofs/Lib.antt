pub mod LineFacts
pub mod EscapeFacts
pub mod PastFacts
pub mod SeriesFacts
