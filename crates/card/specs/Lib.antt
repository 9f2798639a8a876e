pub mod Card
pub mod Answers
