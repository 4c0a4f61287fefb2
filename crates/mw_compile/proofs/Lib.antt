pub mod EmittedEntries
