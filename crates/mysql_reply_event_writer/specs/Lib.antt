pub mod Written
pub mod OwnCells
pub mod NextRows
pub mod Puts
pub mod Laws
