pub mod Terminal
pub mod Reader
pub mod Given
