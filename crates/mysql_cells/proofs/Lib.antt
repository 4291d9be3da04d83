pub mod Appended
pub mod WrittenCells
pub mod ShortForms
pub mod TypedBack
pub mod TypedRead
pub mod Forms
