pub mod Promise
pub mod Sound
pub mod Examples
pub mod Steps
