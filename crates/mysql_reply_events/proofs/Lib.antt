mod BinaryRows
mod RowsInPlace
mod LeadingOn
mod Peeking
mod NextRows
mod KeptRows
