pub mod Texts
pub mod GateTexts
pub mod Inner
