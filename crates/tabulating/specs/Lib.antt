pub mod Tabulating
pub mod Inner
