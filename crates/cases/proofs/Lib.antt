pub mod Holds
pub mod NamedLines
pub mod FittedSets
pub mod SerialCases
