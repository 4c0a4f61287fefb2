pub mod Telling
pub mod GeneralLaws
