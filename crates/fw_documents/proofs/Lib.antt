mod KindFacts
