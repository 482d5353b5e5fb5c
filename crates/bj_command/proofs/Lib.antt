pub mod Cuts
pub mod Utf8
pub mod Forms
pub mod Short
pub mod Pads
pub mod Quits
pub mod Memory
