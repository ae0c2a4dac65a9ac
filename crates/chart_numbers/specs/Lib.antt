pub mod Chart
pub mod Steps
