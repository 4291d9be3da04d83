pub mod ShortVarlen
pub mod Taken
