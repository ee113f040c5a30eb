pub mod Indicators
pub mod Members
pub mod SetLoops
