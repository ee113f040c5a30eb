pub mod Long
pub mod Numbers
mod Examples
pub mod Fitting
pub mod Tallying
pub mod Holding
