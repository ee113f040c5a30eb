pub mod Division
pub mod Clauses
pub mod Examples
