pub mod Exprs
pub mod Stmts
pub mod Classes
pub mod Parts
