pub mod Stacks
pub mod Blocks
pub mod Calls
