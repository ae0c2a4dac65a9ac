pub mod Names
pub mod Numbers
pub mod Lines
pub mod Performing
pub mod Said
