pub mod Binds
pub mod Options
pub mod Values
pub mod Heads
pub mod InForce
pub mod Rows
pub mod Executions
pub mod Commands
mod Recoding
