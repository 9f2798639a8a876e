pub mod TableFiles
