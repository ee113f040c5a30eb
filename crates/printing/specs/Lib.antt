pub mod Lines
pub mod Write
pub mod Clauses
pub mod Examples
