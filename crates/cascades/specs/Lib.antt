pub mod Cascades
pub mod Answers
pub mod Inner
