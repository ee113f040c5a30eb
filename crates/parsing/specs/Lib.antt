pub mod Text
pub mod Clauses
pub mod Examples
