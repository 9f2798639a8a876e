pub mod Procedure
pub mod Inner
