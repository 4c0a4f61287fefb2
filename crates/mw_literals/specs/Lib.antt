pub mod Literals
pub mod LiteralLaws
