pub mod Depth
pub mod Compaction
pub mod Levels
pub mod Graphs
pub mod Same
