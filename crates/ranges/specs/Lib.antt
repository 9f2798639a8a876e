pub mod Ranges
pub mod Lists
pub mod Inner
