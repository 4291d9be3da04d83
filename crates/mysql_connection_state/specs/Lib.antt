pub mod Reads
pub mod Views
pub mod Follows
pub mod NextRows
pub mod Laws
pub mod Peeks
