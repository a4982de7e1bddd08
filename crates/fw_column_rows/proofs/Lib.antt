mod KnownFacts
mod FillFacts
mod ViewFacts
