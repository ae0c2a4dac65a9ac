pub mod Table
pub mod Placing
pub mod Written
mod Fitting
pub mod Writing
pub mod Cases
