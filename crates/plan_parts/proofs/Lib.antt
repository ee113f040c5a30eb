pub mod Telling
pub mod ArrayTelling
pub mod Examples
