pub mod Tables
pub mod Permutations
pub mod Inner
