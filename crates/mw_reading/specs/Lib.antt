pub mod NamedPrograms
pub mod SourceReading
