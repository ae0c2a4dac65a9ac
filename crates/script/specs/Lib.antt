pub mod Scanning
pub mod Performing
pub mod Examples
pub mod Printing
