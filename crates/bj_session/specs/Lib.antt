pub mod Endings
pub mod Naming
pub mod Desk
pub mod Session
