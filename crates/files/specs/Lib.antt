pub mod Files
pub mod RoundTrips
