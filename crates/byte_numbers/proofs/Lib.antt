pub mod Numbers
pub mod Held
mod Puts
