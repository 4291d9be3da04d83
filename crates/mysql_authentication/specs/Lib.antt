pub mod Events
pub mod Readings
pub mod Views
pub mod Written
pub mod Statements
