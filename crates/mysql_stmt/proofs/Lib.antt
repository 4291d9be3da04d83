pub mod Back
pub mod Bitmaps
pub mod Eights
pub mod Lists
pub mod LongData
pub mod Put
pub mod Sizes
