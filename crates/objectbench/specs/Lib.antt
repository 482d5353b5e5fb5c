pub mod Top
