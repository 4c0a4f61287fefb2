pub mod TypeLines
pub mod Naming
pub mod Deciding
pub mod Tables
pub mod Images
pub mod Marks
pub mod Made
pub mod LineLaws
