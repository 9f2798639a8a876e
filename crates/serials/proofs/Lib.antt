pub mod SerialTexts
pub mod Serials
pub mod Closings
pub mod WrongBytes
pub mod ReaderStates
pub mod Cuttings
pub mod Grammars
pub mod TableTexts
