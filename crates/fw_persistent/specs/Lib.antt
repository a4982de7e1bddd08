pub mod Branches
pub mod CountersView
pub mod Counts
pub mod Items
pub mod MapView
pub mod SequenceView
pub mod Values
