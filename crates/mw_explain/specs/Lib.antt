pub mod Placing
pub mod Telling
pub mod Verdicts
