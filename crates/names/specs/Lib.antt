pub mod Names
pub mod NameTrips
pub mod Inner
