pub mod CacheFiles
pub mod GrownFiles
pub mod KeptFiles
pub mod Migrations
