pub mod Count
pub mod Lookup
pub mod Plan
pub mod Scripted
pub mod Sure
