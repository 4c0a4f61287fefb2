pub mod AppendedRecords
pub mod FittingRecords
pub mod GrownFiles
pub mod KeptFiles
pub mod Migrations
