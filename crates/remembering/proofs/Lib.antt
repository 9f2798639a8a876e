pub mod Gaps
pub mod Buffers
pub mod Clearances
pub mod Reaches
pub mod Looks
pub mod RowPairs
pub mod RowWords
pub mod Stretches
