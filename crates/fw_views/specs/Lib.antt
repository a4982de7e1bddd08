pub mod AskedHours
pub mod RowSpan
pub mod Policies
