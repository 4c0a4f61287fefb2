pub mod Linked
pub mod LinkLaw
pub mod Moved
pub mod Views
pub mod Examples
