pub mod Cases
pub mod NamedLines
pub mod FittedSets
pub mod SerialCases
