pub mod Digits
pub mod Fractions
pub mod IntegersReadAgain
pub mod Utf8Texts
pub mod DurationTexts
pub mod Places
pub mod Pairs
