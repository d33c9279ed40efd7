pub mod Choosing
pub mod Determined
pub mod Extending
pub mod Listing
pub mod Ascending
