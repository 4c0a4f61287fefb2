pub mod Records
pub mod Loads
pub mod Parts
pub mod Whole
pub mod Entries
pub mod Loading
pub mod LoadLaws
