pub mod Places
pub mod LaterWrites
pub mod RepeatedWrites
pub mod NamedTypes
pub mod WriterContents
pub mod Texts
