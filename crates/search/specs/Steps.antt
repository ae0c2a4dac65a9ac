pub mod Coded
pub mod Search
