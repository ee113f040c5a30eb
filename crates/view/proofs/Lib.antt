mod Finds
mod Viewing
pub mod Examples
