pub mod CellsWritten
pub mod RowLaws
pub mod Rows
pub mod Views
pub mod Written
pub mod WrittenLaws
