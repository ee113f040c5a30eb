pub mod Rounding
pub mod Call
pub mod Same
pub mod Clauses
pub mod Examples
