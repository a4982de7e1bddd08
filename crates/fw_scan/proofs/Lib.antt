pub mod RunFacts
pub mod ScanFacts
