pub mod Machine
pub mod Follows
