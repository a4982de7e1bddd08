pub mod SumFacts
pub mod ChangeFacts
pub mod CompareFacts
pub mod ShownFacts
pub mod RangeFacts
