pub mod Ir
pub mod MeaningLaw
pub mod Views
pub mod Ranges
