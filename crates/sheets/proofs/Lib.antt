pub mod SheetAnswers
pub mod Bounds
