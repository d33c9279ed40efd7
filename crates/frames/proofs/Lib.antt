pub mod Reading
pub mod Parts
pub mod Sums
pub mod Passed
pub mod Strings
pub mod Spoiled
