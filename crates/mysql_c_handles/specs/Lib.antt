pub mod Bytes
pub mod Codes
pub mod Owned
pub mod Sets
pub mod Texts
