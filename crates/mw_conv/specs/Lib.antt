pub mod Environments
pub mod Convert
pub mod Represents
pub mod Agreement
pub mod Contexts
pub mod Finding
pub mod Found
pub mod Converting
