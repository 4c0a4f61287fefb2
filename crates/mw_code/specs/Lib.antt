pub mod Names
pub mod Nodes
pub mod Reading
pub mod ReadViews
pub mod CodeLaws
pub mod ReadBack
