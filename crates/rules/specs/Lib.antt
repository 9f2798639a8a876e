pub mod Inner
pub mod Places
pub mod Rules
pub mod Tidying
