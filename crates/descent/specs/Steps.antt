pub mod Closed
pub mod Members
