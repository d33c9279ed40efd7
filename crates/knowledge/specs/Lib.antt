pub mod Orders
pub mod Worlds
pub mod Meaning
pub mod Extends
pub mod Listed
