pub mod Full
pub mod Broad
mod Tall
pub mod Table
