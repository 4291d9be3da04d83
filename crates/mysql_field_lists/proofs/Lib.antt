pub mod Bits
pub mod Setting
