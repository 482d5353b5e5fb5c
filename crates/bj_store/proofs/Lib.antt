pub mod Cells
pub mod Chains
pub mod Keeps
pub mod Kept
pub mod Openings
pub mod Puts
pub mod Rows
