pub mod ColumnLaws
pub mod Columns
pub mod Extended
pub mod ExtendedLaws
pub mod Statements
pub mod Views
