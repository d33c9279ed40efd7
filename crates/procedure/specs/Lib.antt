pub mod Fields
pub mod Procedures
pub mod Acts
pub mod Starts
pub mod Said
pub mod Held
pub mod Asked
