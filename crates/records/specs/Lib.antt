pub mod Record
pub mod Clauses
pub mod Examples
