pub mod Telling
pub mod Writing
pub mod CertLaws
