pub mod Decoding
pub mod Firing
pub mod Lines
pub mod Quads
pub mod Words
