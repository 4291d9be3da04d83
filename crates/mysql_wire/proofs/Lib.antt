pub mod Chunks
pub mod Unique
pub mod Exists
pub mod GoingOn
pub mod Taken
pub mod Moved
pub mod Held
pub mod Reading
pub mod Writing
pub mod OnePacket
pub mod Steps
pub mod Incoming
pub mod InPlace
pub mod Due
mod Decides
mod Rests
mod Fronts
pub mod Staying
pub mod Taking
pub mod Follow
pub mod Framings
pub mod Room
pub mod Extents
pub mod Joins
