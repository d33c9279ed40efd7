pub mod Judged
pub mod Tabled
