pub mod Literals
pub mod AsSql
