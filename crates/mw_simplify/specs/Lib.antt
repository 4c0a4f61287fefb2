pub mod SimplificationTheorem
pub mod SimplifiedOutcomes
pub mod SimplificationRows
pub mod Leaves
