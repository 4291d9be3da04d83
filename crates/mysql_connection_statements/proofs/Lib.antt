pub mod Entries
pub mod Changes
pub mod Counting
pub mod Sums
pub mod Totals
