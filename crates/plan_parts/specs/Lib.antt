pub mod Array
pub mod Sizes
pub mod Clauses
pub mod Examples
