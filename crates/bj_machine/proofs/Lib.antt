pub mod Defaults
pub mod Allowing
pub mod Living
pub mod Logs
pub mod Rooms
pub mod Machines
pub mod Resets
