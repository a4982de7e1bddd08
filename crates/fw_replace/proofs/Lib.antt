mod PostFacts
mod OwnFacts
mod ReadFacts
mod SummaryFacts
mod MatchFacts
mod ReplaceFacts
