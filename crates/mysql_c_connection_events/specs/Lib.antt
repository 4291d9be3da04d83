pub mod Commands
pub mod Logins
pub mod Replies
pub mod Shown
