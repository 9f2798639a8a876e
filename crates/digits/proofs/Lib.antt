pub mod Digits
pub mod Packs
pub mod ThreeCases
pub mod Sizes
pub mod Bits
