pub mod Count
pub mod Forms
