pub mod FromRow
pub mod Answers
