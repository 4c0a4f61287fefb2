pub mod ModuleFiles
pub mod FileAnswers
pub mod FileLines
pub mod FileLaws
