pub use Rattle.mysql_auth.specs.Plugins
pub use Rattle.mysql_auth.specs.PluginData
pub use Rattle.mysql_auth.specs.Packets as AuthPackets
pub use Rattle.mysql_auth.specs.Views as AuthViews
pub use Rattle.mysql_handshake.specs.Capabilities
pub use Rattle.mysql_handshake.specs.HandshakeViews
pub use Rattle.mysql_handshake.specs.Handshakes
pub use Rattle.mysql_handshake.specs.Versions
pub use Rattle.mysql_handshake_response.specs.AttributeViews
pub use Rattle.mysql_handshake_response.specs.Attributes
pub use Rattle.mysql_handshake_response.specs.Parts
pub use Rattle.mysql_handshake_response.specs.ResponseViews
pub use Rattle.mysql_handshake_response.specs.Responses
pub use Rattle.mysql_handshake_response.specs.SslRequestLaws
pub use Rattle.mysql_handshake_response.specs.SslRequestViews
pub use Rattle.mysql_handshake_response.specs.SslRequests
pub use Rattle.mysql_handshake_response.specs.TextViews
pub use Rattle.mysql_replication.specs.Tags
pub use Rattle.mysql_replication.specs.Intervals
pub use Rattle.mysql_replication.specs.Sids
pub use Rattle.mysql_replication.specs.Blocks
pub use Rattle.mysql_replication.specs.Refusals
pub use Rattle.mysql_replication.specs.Packets as ReplicationPackets
pub use Rattle.mysql_replication.specs.Statements as ReplicationStatements
pub use Rattle.mysql_replication.specs.Views as ReplicationViews
pub mod ChangedUserStatements
pub mod ChangedUserViews
pub mod ChangedUsers
