mod AsBox
pub mod Cells
