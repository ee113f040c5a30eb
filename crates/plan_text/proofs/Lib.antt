pub mod Examples
pub mod Lines
pub mod Lengths
pub mod Outputs
