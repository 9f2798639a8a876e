pub mod Cascades
pub mod Undone
pub mod Answers
pub mod Stored
pub mod Checks
pub mod Readings
