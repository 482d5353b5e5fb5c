pub mod Lexical
pub mod Lexing
pub mod Grammar
pub mod Reading
pub mod Sums
pub mod Cells
