pub mod Choice
pub mod Inner
