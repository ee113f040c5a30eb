pub mod Reason
pub mod Call
pub mod Explained
pub mod Clauses
