pub mod Count
pub mod Forms
pub mod Size
