pub mod Causes
pub mod Laws
pub mod Plain
pub mod Refusals
pub mod Written
