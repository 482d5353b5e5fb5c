pub mod Builtin
pub mod Console
