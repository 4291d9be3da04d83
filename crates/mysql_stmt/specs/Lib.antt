pub mod Commands
pub mod CommandLaws
pub mod Executions
pub mod NullBits
pub mod Statements
pub mod Views
