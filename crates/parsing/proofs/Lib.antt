pub mod Scans
pub mod Answers
mod Examples
