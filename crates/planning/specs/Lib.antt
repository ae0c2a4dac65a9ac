pub mod Arranged
pub mod Promise
pub mod Steps
