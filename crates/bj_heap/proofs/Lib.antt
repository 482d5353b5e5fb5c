pub mod Splits
pub mod Maps
