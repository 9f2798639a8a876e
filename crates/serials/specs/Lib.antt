pub mod SerialTexts
pub mod Grammars
pub mod Serials
