mod HeadFacts
mod TextFacts
