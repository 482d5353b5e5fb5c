pub mod Grammar
pub mod Reading
pub mod Heights
pub mod Nodes
pub mod Given
