pub mod Lists
pub mod Division
pub mod Given
pub mod Visited
