pub mod Tokens
pub mod InOrder
pub mod Bytes
pub mod Texts
pub mod Reading
pub mod Lexing
pub mod Pieces
pub mod Steps
