pub mod Loops
pub mod Kept
pub mod Carried
pub mod CellsPassed
pub mod CellsInTurn
