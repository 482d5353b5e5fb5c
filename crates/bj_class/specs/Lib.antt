pub mod Grammar
pub mod Reading
pub mod Deep
pub mod Given
