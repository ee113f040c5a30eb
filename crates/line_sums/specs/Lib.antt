pub mod Clauses
pub mod Fixing
