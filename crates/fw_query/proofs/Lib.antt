pub mod WriterFacts
pub mod ReportFacts
mod FindFacts
mod ListingFacts
pub mod TotalFacts
pub mod OneAnswer
pub mod DirectFacts
pub mod CarriedFacts
pub mod AccountedFacts
pub mod BoughtFacts
mod ShareFacts
mod ExistFacts
mod ElsewhereFacts
