pub mod Call
pub mod Clauses
pub mod Examples
