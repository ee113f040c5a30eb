mod DoubleSums
mod Cuts
mod Fixes
mod Fills
mod FirstMatrices
mod Cells
pub mod Existence
