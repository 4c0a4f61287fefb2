pub mod Lists
pub mod Machine
pub mod WitnessValue
pub mod SendSync
pub mod Slots
pub mod Windows
