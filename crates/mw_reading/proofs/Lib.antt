pub mod ScopedTerms
pub mod SourceReadings
