mod Ends
mod PolicyFacts
