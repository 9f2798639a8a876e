pub mod Cards
pub mod Fronts
pub mod Exits
