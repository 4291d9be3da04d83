pub mod Capabilities
pub mod HandshakeViews
pub mod Handshakes
pub mod VersionReading
pub mod Versions
