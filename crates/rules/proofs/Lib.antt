pub mod Places
pub mod Rules
pub mod FittingPairs
pub mod Weights
pub mod TidySteps
pub mod Endings
pub mod Promises
pub mod PairWords
