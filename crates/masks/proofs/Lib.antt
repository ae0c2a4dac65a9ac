pub mod Bits
pub mod Sets
pub mod Tables
pub mod Members
pub mod Clearing
pub mod Visiting
pub mod Pairing
