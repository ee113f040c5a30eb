pub mod Bits
mod Examples
