mod LineSumFacts
mod TallyFacts
mod CoverageFacts
