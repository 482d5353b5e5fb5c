pub mod Readers
pub mod Parts
