pub mod Numbers
pub mod Places
pub mod Due
pub mod Answer
pub mod Either
pub mod Clauses
