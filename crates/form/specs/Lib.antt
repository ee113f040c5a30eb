pub mod Form
pub mod Clauses
pub mod Examples
