pub mod CellTails
pub mod PlacedCells
pub mod RowSteps
pub mod KeptRows
pub mod Tails
