pub mod Sorting
pub mod Picking
pub mod Only
