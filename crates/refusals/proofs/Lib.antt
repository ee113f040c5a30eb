pub mod Dues
pub mod Numbering
pub mod Eithers
