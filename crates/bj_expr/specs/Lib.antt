pub mod Grammar
pub mod Nodes
pub mod Reading
pub mod Given
pub mod Within
