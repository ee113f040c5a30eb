pub mod Rounding
pub mod Clauses
pub mod Examples
