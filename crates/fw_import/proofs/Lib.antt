mod ImportFacts
mod ImporterFacts
