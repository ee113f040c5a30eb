pub mod Readings
pub mod Sizing
pub mod Scratch
pub mod Bodies
