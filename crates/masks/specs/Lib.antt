pub mod Pairs
pub mod Sets
