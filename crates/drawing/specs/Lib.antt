pub mod Draw
pub mod Clauses
pub mod Examples
