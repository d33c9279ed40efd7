pub mod Keeping
pub mod Onward
pub mod Visits
