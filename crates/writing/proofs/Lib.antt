mod Puts
pub mod Writings
