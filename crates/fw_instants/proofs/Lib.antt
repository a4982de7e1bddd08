mod InstantFacts
