pub mod Naming
pub mod Wholes
pub mod Telling
pub mod Setting
pub mod Finding
pub mod Explaining
pub mod Asking
