pub mod Prices
pub mod Inner
