pub mod Synthesis
pub mod Inner
