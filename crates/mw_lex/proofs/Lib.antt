pub mod Counts
pub mod LastTokens
pub mod ByteTests
pub mod Tables
pub mod Lengths
pub mod Ranges
pub mod Fronts
pub mod Runs
pub mod StepsOn
pub mod OneReading
pub mod OneAnswer
pub mod Lexed
mod Rows
