pub mod Variance
pub mod Clauses
pub mod Examples
