pub mod Bytes
pub mod Frames
pub mod Seen
pub mod Files
pub mod Strings
pub mod Spoiled
