pub mod TidyAnswers
pub mod Inner
