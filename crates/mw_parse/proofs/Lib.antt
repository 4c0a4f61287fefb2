pub mod Parsed
pub mod Programs
pub mod Connectives
