pub mod MemberFacts
pub mod ReadFacts
