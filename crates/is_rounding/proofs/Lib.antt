pub mod EntryLines
pub mod Rounded
mod Examples
