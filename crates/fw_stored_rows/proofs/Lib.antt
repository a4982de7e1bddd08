mod StartFacts
mod RowFacts
mod RunFacts
