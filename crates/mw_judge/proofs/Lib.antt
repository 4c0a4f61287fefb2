pub mod ValidityDecision
pub mod FileAnswers
pub mod FileLaws
pub mod TextLemmas
