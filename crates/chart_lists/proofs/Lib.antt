pub mod Charted
pub mod Leaving
pub mod Passing
pub mod Handing
pub mod Drawing
