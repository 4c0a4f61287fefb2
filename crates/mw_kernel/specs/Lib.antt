pub mod GroundCodes
pub mod RunningStates
pub mod KernelAnswers
pub mod KernelMeanings
pub mod Straying
pub mod Invoking
pub mod Answering
