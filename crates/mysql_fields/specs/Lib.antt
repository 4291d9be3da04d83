pub mod Forms
pub mod Laws
pub mod Wire
pub mod TextLaws
pub mod Texts
pub mod Numbers
