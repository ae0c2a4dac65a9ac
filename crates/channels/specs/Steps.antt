pub mod Laid
pub mod Walked
pub mod Sized
