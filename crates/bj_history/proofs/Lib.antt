pub mod Lines
pub mod Outcomes
pub mod Acts
pub mod Bench
pub mod Pauses
pub mod Turns
