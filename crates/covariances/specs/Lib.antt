pub mod Covariance
pub mod Clauses
