pub mod Promise
pub mod Meaning
pub mod Histories
pub mod Steps
