pub mod Settled
pub mod Statements
pub mod Laws
