pub mod Sheets
pub mod Inner
