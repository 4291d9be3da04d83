pub mod Finding
pub mod Replies
pub mod Shown
pub mod Spots
pub mod States
pub mod Steps
pub mod Writing
