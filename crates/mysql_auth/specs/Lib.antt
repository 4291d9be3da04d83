pub mod PacketLaws
pub mod Packets
pub mod PluginData
pub mod Plugins
pub mod Views
