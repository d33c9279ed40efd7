pub mod Knowing
pub mod Nodes
pub mod Room
pub mod Along
pub mod Ahead
pub mod Slots
