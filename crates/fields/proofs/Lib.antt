pub mod Lining
pub mod Parting
pub mod Standing
pub mod Telling
