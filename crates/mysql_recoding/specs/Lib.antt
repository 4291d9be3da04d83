pub mod Causes
pub mod Recoding
pub mod Laws
pub mod AsItComes
pub mod Steps
pub mod Inside
