pub mod Next
pub mod Clauses
