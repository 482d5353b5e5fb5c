pub mod Marks
pub mod Early
pub mod Checked
pub mod Parts
pub mod Class
