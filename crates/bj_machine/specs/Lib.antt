pub mod Kept
pub mod World
pub mod Shown
pub mod Reset
