pub mod Plan
pub mod Clauses
