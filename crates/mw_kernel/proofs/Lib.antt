pub mod Units
pub mod WordEnds
pub mod AnswerLemmas
pub mod MeaningLemmas
pub mod RunningLemmas
pub mod StrayLemmas
