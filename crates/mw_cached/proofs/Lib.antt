pub mod EmittingLemmas
pub mod FaultLemmas
pub mod KeptLemmas
pub mod LinkLemmas
pub mod OtherUnits
pub mod ShortIntegers
pub mod SimplifiedLemmas
pub mod TellingLemmas
