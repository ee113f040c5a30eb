pub mod Clauses
pub mod Search
pub mod Calls
