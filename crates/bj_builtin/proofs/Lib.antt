pub mod Members
pub mod Typing
