pub mod NumericOperands
pub mod SignedQuotients
pub mod ExamplesValid
pub mod ValidSteps
pub mod ActLaws
pub mod Acts
pub mod Arguments
pub mod ControlExamples
pub mod ExecutionExamples
pub mod ExecutionLaw
pub mod MoreUnits
mod NumericRows
mod MemoryRows
mod ControlRows
mod InvalidExamples
pub mod OneRule
pub mod RunIsExecution
pub mod RunLaw
pub mod StoreShape
mod OperandTypes
mod TypedActs
pub mod ActTypes
pub mod Preservation
pub mod Soundness
pub mod InstanceTypes
pub mod FormatPieces
pub mod FormatNumbers
mod FormatOpcodes
pub mod FormatInstructions
mod FormatSections
pub mod FormatModules
mod FormatCuts
mod OpcodeRows
mod NothingSpelled
