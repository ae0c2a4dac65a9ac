pub mod Held
pub mod Laying
pub mod Adding
pub mod Clearing
pub mod Following
pub mod Answers
