pub mod Imports
pub mod Misfits
pub mod Modifiers
pub mod Rules
pub mod Starts
pub mod Words
