mod AddFacts
mod JoinFacts
mod GroupFacts
pub mod KeptFacts
pub mod PartFacts
pub mod PartColumns
mod PartRows
pub mod HourFacts
mod RunFacts
pub mod SkuFacts
mod MetFacts
mod OrderFacts
pub mod HourListFacts
