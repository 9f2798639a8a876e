pub mod Inverses
pub mod Accepts
