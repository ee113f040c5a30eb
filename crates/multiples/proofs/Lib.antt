pub mod Divisors
pub mod Multiples
pub mod Examples
