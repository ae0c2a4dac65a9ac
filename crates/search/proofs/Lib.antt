pub mod Open
pub mod Steps
pub mod Coding
pub mod Going
pub mod Asking
