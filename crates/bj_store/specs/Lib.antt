pub mod Objects
pub mod Kinds
pub mod State
pub mod React
pub mod Runs
pub mod Kept
