pub mod Modes
pub mod Views
