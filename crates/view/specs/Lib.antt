pub mod View
pub mod Find
pub mod Examples
