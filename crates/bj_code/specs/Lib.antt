pub mod Stack
pub mod Step
pub mod Calling
pub mod TermCode
pub mod ProgramCode
