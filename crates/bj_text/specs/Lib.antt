-- Arithmetic of Java, and what the calls on texts answer.
pub mod Arith
pub mod Escape
pub mod Numeral
pub mod Unescape
pub mod Utf16
