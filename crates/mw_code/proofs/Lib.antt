pub mod FreshBinders
pub mod UnsharedTerms
pub mod TermSizes
pub mod AddedNodes
pub mod FormSizes
pub mod NodeReadings
