pub mod ElementLaws
pub mod ListLaws
pub mod Lists
pub mod NullBitmap
pub mod NullBits
