pub mod Multiple
pub mod Clauses
pub mod Examples
