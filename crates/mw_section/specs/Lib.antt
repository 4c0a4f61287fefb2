pub mod Writing
pub mod Writers
pub mod WritingLaws
