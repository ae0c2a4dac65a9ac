pub mod Changing
pub mod Refusing
pub mod Sequences
pub mod Spelling
