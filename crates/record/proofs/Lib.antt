pub mod Judging
pub mod Readings
pub mod Soundness
pub mod Accepted
pub mod Checking
pub mod Handing
pub mod Asking
