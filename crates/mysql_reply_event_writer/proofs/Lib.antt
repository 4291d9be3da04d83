mod Comparing
mod Putting
pub mod FieldsRead
pub mod PacketsRead
pub mod RowsRead
pub mod Terminators
pub mod ReadEvents
mod NextRows
