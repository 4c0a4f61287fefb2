pub mod SendSync
pub mod LoadedTexts
pub mod ModuleMap
pub mod ReceiptTexts
pub mod HonestRecords
pub mod ReceiptSlots
pub mod MigratedRecords
pub mod Modules
