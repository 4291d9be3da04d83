mod FirstError
pub mod Behind
pub mod Fields
pub mod Scrambles
