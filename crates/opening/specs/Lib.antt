pub mod Open
pub mod Clauses
pub mod Examples
