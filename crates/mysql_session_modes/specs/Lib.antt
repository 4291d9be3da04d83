pub mod SessionModes
pub mod Steps
pub mod Texts
pub mod Told
pub mod Views
