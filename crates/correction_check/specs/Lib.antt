pub mod Check
pub mod Clauses
