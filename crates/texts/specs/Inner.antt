pub mod StoredTexts
pub mod Names
