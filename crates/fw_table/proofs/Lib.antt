mod AmountFacts
mod ShownFacts
