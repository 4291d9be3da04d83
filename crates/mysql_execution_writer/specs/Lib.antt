pub mod Cells
pub mod Written
pub mod InForce
pub mod Answers
pub mod Bulks
pub mod Laws
