pub mod Values
pub mod NodeLineReadings
pub mod Counts
pub mod AssignmentExtensions
pub mod Forms
pub mod TermEquations
pub mod General
