pub mod Lifting
pub mod InLogin
pub mod Words
pub mod PlainBytes
pub mod Named
pub mod Commands
pub mod Settled
pub mod Replies
pub mod OwnValues
mod NextRows
