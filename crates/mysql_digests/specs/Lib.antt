pub mod Digest
pub mod Lexemes
pub mod Held
pub mod Laws
