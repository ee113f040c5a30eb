pub mod Counts
mod Folds
mod Rows
mod Lifting
mod RowLoop
pub mod Products
pub mod Outcomes
