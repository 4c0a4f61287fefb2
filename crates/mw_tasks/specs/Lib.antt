pub mod Agreeing
pub mod BadItems
pub mod Endings
pub mod Gathering
pub mod Phases
pub mod RightRuns
pub mod Taking
pub mod TaskOutcomes
