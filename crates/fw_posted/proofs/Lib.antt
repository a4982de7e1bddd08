pub mod GoneFacts
pub mod MarkFacts
pub mod MergeFacts
pub mod PartFacts
pub mod WithdrawFacts
