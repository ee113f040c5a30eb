pub mod Checking
pub mod Scales
pub mod Pooling
pub mod Calls
pub mod Examples
