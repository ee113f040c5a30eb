pub mod Table
pub mod Whole
pub mod Check
pub mod Clauses
pub mod Examples
