pub mod Decimals
pub mod Writes
pub mod TextParts
pub mod Names
pub mod GateLengths
pub mod Appends
pub mod Walks
