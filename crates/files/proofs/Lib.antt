pub mod NumberBytes
pub mod Frames
pub mod Openings
pub mod Transfers
pub mod RoundTrips
