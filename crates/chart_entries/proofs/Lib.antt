pub mod Handing
pub mod Refusals
pub mod Sheets
