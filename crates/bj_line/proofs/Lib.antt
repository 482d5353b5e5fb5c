pub mod LineLaws
pub mod Whole
