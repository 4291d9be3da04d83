pub mod Executing
pub mod GoingOn
pub mod Leading
pub mod Parts
pub mod PassedRows
pub mod Passing
mod NextRows
pub mod Phases
pub mod Turns
pub mod Unclear
