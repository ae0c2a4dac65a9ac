pub mod Order
pub mod Promise
pub mod Steps
