use Rattle.mysql_handshake.proofs.VersionGroups.{is_mariadb_version}
use Rattle.mysql_handshake.proofs.handshake.HandshakePacket.maria_db_server_version_parsed.Goals as goal

pub returns : goal.returns
returns c = rw (c.mariadb_version.ensures, c.server_version_ref.ensures) (is_mariadb_version _)
