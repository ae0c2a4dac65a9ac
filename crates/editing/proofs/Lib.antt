pub mod Machines
pub mod Meaning
pub mod Linking
pub mod Detours
pub mod Sessions
pub mod Sequences
