pub mod Examples
pub mod Gathered
pub mod WordLaws
pub mod Words
