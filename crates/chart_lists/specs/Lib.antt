pub mod Chart
pub mod Promise
pub mod Steps
