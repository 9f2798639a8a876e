pub mod Decided
pub mod One
pub mod Two
pub mod Three
pub mod LeastPlaces
pub mod HandingBack
pub mod Once
pub mod SerialLead
