pub mod CanonicalText
pub mod TextLaws
pub mod Forms
pub mod Numbers
pub mod Reading
