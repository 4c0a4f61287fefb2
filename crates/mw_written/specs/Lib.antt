pub mod Readings
pub mod Order
pub mod Written
pub mod WrittenLaws
pub mod OrderLaws
pub mod Examples
