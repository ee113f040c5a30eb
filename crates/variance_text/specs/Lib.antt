pub mod VarianceText
pub mod Write
pub mod Read
pub mod Examples
