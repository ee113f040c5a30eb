pub mod Searches
pub mod Paths
