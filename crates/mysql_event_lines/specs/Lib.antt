pub mod Quoted
pub mod Laws
