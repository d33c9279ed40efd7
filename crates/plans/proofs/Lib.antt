pub mod Codes
mod Examples
pub mod Nodes
pub mod Parses
pub mod Places
pub mod Turns
