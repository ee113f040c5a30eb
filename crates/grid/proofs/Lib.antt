pub mod GridPlaces
pub mod Grids
pub mod GridSums
pub mod GridTests
pub mod GridBounds
pub mod CellWrites
