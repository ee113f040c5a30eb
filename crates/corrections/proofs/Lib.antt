pub mod Apart
pub mod Moved
pub mod Sheets
pub mod Counting
pub mod Rounded
pub mod Natural
pub mod Examples
