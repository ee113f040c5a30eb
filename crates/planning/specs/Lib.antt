pub mod Rounds
pub mod Clauses
pub mod Examples
