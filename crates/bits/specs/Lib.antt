pub mod Bits
pub mod Clauses
pub mod Examples
