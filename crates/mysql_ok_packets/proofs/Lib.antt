pub mod Back
pub mod SessionStatesBack
pub mod Elements
