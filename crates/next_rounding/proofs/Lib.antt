pub mod Digits
pub mod Comparing
pub mod Following
pub mod Numbers
pub mod Loops
pub mod Found
