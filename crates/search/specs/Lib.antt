pub mod Tabled
pub mod Steps
