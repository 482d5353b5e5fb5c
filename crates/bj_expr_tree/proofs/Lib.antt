pub mod ExprNodes
pub mod Heights
pub mod Sums
