pub mod Call
pub mod Promises
pub mod Clauses
pub mod Examples
