pub mod ConstantLaws
pub mod Constants
pub mod Either
pub mod EitherLaws
pub mod FlagLaws
pub mod Flags
pub mod TypeNumberLaws
