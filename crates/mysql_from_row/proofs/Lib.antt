pub mod FirstCells
pub mod Utf8Texts
