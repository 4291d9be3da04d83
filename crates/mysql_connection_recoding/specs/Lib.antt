pub mod Agreement
pub mod Recoding
pub mod Known
pub mod Laws
