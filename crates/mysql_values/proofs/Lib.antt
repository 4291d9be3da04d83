pub mod Looked
pub mod TextWritten
pub mod BindCauses
pub mod Cloned
