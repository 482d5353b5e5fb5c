-- The layout of printed Java.
pub mod Same
pub mod Printed
