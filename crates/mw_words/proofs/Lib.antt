pub mod ExampleLemmas
pub mod Items
pub mod LawLemmas
pub mod OptionLemmas
pub mod PartLemmas
pub mod ReadParts
pub mod PartSelection
pub mod Usage
