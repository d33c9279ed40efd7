pub mod Trees
pub mod Checks
pub mod Kinds
pub mod Flaws
