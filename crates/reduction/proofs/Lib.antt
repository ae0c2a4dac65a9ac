pub mod Marks
pub mod Pairs
pub mod Transitive
pub mod Links
pub mod Graphs
