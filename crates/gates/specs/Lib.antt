pub mod Gates
pub mod Records
pub mod Inner
