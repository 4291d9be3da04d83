-- What contracts see of a handshake packet.
-- (MySQL: Client/Server Protocol, "Protocol::HandshakeV10".)
use Rattle.std.specs.Cow.{cow_slice_items}
use Rattle.std.specs.Option.{option_map}
use Rattle.mysql_handshake.specs.Handshakes.{FixedFields, HandshakeFields}
use Rattle.mysql_handshake.specs.declared.handshake.FixedBlock.{FixedBlock}
use Rattle.mysql_handshake.specs.declared.handshake.HandshakePacket.{HandshakePacket}

-- the fields of a handshake packet, apart from where they lie
abbrev pub handshake_view : HandshakePacket → HandshakeFields
handshake_view packet = record {
  protocol_version = packet.protocol_version;
  server_version = cow_slice_items packet.server_version;
  connection_id = packet.connection_id;
  scramble_1 = packet.scramble_1;
  capabilities = packet.capabilities.0;
  default_collation = packet.default_collation;
  status_flags = packet.status_flags.0;
  data_length = packet.auth_plugin_data_len;
  mariadb_ext_capabilities = packet.mariadb_ext_capabilities.0;
  scramble_2 = option_map cow_slice_items packet.scramble_2;
  auth_plugin_name = option_map cow_slice_items packet.auth_plugin_name;
}

abbrev pub fixed_view : FixedBlock → FixedFields
fixed_view block = record {
  connection_id = block.connection_id;
  scramble_1 = block.scramble_1;
  capabilities = block.capabilities.0;
  default_collation = block.default_collation;
  status_flags = block.status_flags.0;
  data_length = block.auth_plugin_data_len;
  mariadb_ext_capabilities = block.mariadb_ext_capabilities.0;
}
