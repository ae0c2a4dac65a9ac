pub mod Calls
pub mod State
pub mod Strokes
pub mod Steps
pub mod Version
