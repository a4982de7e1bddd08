pub mod OriginFacts
pub mod KindFacts
