pub mod Leading
pub mod Demands
pub mod Numbers
pub mod Refusals
