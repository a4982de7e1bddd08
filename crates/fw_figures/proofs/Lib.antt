pub mod PriceFacts
mod UnitFacts
