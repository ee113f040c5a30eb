pub mod Meanings
pub mod Divisions
pub mod Examples
