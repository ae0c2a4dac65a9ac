pub mod Exact
pub mod Drawing
