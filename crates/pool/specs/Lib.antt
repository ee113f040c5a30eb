pub mod Pool
pub mod Promises
pub mod Clauses
pub mod Examples
