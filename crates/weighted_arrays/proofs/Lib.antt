pub mod Weighting
pub mod Belonging
