pub mod Duplicates
pub mod Scanning
