pub mod BinaryBack
pub mod BinaryRead
pub mod BinaryWriting
pub mod Cells
pub mod NullBits
pub mod TextBack
pub mod TextWriting
pub mod WholeRows
