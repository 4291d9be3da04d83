pub mod Escapes
pub mod SqlTexts
