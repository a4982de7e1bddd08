mod PeriodFacts
mod SheetFacts
