pub mod Calls
mod Examples
