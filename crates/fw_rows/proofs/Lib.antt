mod FieldFacts
mod RecordFacts
mod HeaderFacts
mod KnownFacts
pub mod JudgedFacts
pub mod WordFacts
mod DiscountFacts
pub mod TagFacts
mod ColumnFacts
mod CellFacts
pub mod MakingFacts
mod RowFacts
mod ShortFacts
pub mod OneReading
pub mod KeptFacts
pub mod ObjectFacts
pub mod KeptTagFacts
pub mod PlaceFacts
pub mod KeepingFacts
pub mod KeptLaw
pub mod KeeperFacts
pub mod FirstFacts
