pub mod Operators
pub mod Gates
pub mod Records
pub mod Bytes
pub mod Marks
pub mod Firing
pub mod Lines
