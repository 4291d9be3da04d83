pub mod Walking
pub mod TextSteps
pub mod TextWalks
pub mod Skipping
