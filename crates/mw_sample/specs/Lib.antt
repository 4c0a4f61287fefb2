pub mod Examples
pub mod Sample
pub mod SourceLaws
