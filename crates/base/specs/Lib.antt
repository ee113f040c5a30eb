pub mod Lists
pub mod Buffers
pub mod Search
pub mod Clauses
