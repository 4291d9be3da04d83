use Rattle.mysql_handshake.proofs.VersionGroups.{is_version}
use Rattle.mysql_handshake.proofs.handshake.HandshakePacket.server_version_parsed.Goals as goal

pub returns : goal.returns
returns c = rw (c.version_of.ensures, c.server_version_ref.ensures) (is_version _)
