pub mod Sheet
pub mod Sheets
pub mod Entries
