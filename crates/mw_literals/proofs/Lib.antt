pub mod KernelLiterals
pub mod SimplifiedLiterals
pub mod StagedLiterals
pub mod SourceLiterals
pub mod BuiltLiterals
