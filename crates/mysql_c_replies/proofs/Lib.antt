mod RowsOfSets
mod States
