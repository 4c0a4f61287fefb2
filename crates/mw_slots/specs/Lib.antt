pub mod Core
pub mod CoreExamples
pub mod Receipts
pub mod Refusals
pub mod Witnesses
