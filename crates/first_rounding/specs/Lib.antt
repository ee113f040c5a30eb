pub mod First
pub mod Order
pub mod Clauses
