pub mod Places
pub mod RowRefs
pub mod Lines
pub mod StoredIter
pub mod StoredRows
