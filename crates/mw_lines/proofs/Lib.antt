pub mod OneLine
pub mod NamedTypes
pub mod StoredLines
pub mod RootImages
pub mod ImageSearch
pub mod Candidates
pub mod ClassifierMarks
