pub mod Forms
pub mod Typings
