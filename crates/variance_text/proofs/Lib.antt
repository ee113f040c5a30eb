pub mod Signs
pub mod Rows
pub mod Starts
pub mod Readings
pub mod Runs
pub mod Answers
pub mod Examples
