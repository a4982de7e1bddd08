pub mod SumFacts
pub mod TrueFacts
mod TextFacts
mod MemberFacts
