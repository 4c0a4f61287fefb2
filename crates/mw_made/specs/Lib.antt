pub mod Making
pub mod MakingLaws
