pub mod Cases
pub mod Ready
pub mod Arming
pub mod Confirming
pub mod Visiting
pub mod Possible
