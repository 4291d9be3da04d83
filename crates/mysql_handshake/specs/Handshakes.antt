-- The initial handshake packet.
-- (MySQL: Client/Server Protocol, "Protocol::HandshakeV10"; MariaDB: "Connecting", 'Initial handshake packet'.)
-- A reading takes bytes from the front: x.0 is what was read and x.1 the bytes left; the first refusal counts.
use Rattle.std.specs.Prelude.{ℕ, ◌+◌, ◌-◌, ◌==◌, Bool, true, max, if◌then◌else◌, ◌∷◌, ◌++◌, [], List, length, replicate}
use Rattle.std.specs.Prelude.{Option, None}
use Rattle.std.specs.Prelude.{Some, Ok}
use Rattle.std.specs.Int.RustNames.{bit_and, bit_or}
use Rattle.std.specs.List.{concat}
use Rattle.bitflags.specs.Sets.{known_bits}
use Rattle.byteorder.specs.Endian.{little_bytes}
use Rattle.mysql_auth.specs.Plugins.{without_zero}
use Rattle.mysql_buf.specs.Writing.{front}
use Rattle.mysql_const.specs.MariadbCapabilities.{mariadb_capabilities}
use Rattle.mysql_handshake.specs.Capabilities.{plugin_auth, secure_connection}
use Rattle.mysql_fields.specs.Forms.{bytes_at, fixed_number_at, upper_half, upper_half_at}
use Rattle.mysql_fields.specs.Wire.{Reading, ◌>>=◌}
use Rattle.mysql_fields.specs.Texts.{bare_at, fixed_text, null_text, null_text_at}
use Rattle.mysql_field_constants.specs.Constants.{named_at, skipped_at}
use Rattle.mysql_field_constants.specs.Flags.{contains, status_named}

-- what a handshake packet says; of a second scramble the first 247 bytes count
pub record HandshakeFields : Type 0 where
  pub protocol_version : ℕ
  pub server_version : List ℕ
  pub connection_id : ℕ
  pub scramble_1 : List ℕ
  pub capabilities : ℕ
  pub default_collation : ℕ
  pub status_flags : ℕ
  pub data_length : ℕ
  pub mariadb_ext_capabilities : ℕ
  pub scramble_2 : Option (List ℕ)
  pub auth_plugin_name : Option (List ℕ)

-- what counts of a second scramble
abbrev pub scramble_front : List ℕ → List ℕ
scramble_front text = front text 247

-- the length that is written for both scrambles: that of the second and 8 where a plugin is named
-- and there is a second one, else 0
abbrev pub scrambles_length : ℕ → Option (List ℕ) → ℕ
scrambles_length capabilities None = 0
scrambles_length capabilities (Some text) =
    if contains capabilities plugin_auth then length (scramble_front text) + 8 else 0

-- a second scramble, where there is one
abbrev pub scramble_written : Option (List ℕ) → List ℕ
scramble_written None = []
scramble_written (Some text) = scramble_front text

-- the name of a plugin and a zero, where there is a name
abbrev pub name_written : Option (List ℕ) → List ℕ
name_written None = []
name_written (Some name) = null_text name

-- the fields of fixed length
pub record FixedFields : Type 0 where
  pub connection_id : ℕ
  pub scramble_1 : List ℕ
  pub capabilities : ℕ
  pub default_collation : ℕ
  pub status_flags : ℕ
  pub data_length : ℕ
  pub mariadb_ext_capabilities : ℕ

-- in their order; the reserved bytes are zeros
unfoldable pub fixed : FixedFields → List ℕ
fixed p = concat (
    little_bytes 4 p.connection_id ∷ p.scramble_1 ∷ replicate 1 0 ∷ little_bytes 2 p.capabilities ∷
    little_bytes 1 p.default_collation
    ∷ little_bytes 2 p.status_flags ∷ upper_half p.capabilities ∷ little_bytes 1 p.data_length ∷ replicate 6 0
    ∷ little_bytes 4 p.mariadb_ext_capabilities ∷ []
    )

-- what is written of fixed length: the length is the one of what is written, whatever was read
abbrev pub fixed_written : HandshakeFields → FixedFields
fixed_written p = record {
  connection_id = p.connection_id;
  scramble_1 = p.scramble_1;
  capabilities = p.capabilities;
  default_collation = p.default_collation;
  status_flags = p.status_flags;
  data_length = scrambles_length p.capabilities p.scramble_2;
  mariadb_ext_capabilities = p.mariadb_ext_capabilities;
}

-- A version byte, the server's version and a zero, the fields of fixed length; a second scramble
-- and a plugin's name are written where they are held, whatever the flags.
unfoldable pub handshake : HandshakeFields → List ℕ
handshake p = concat (
    little_bytes 1 p.protocol_version ∷ null_text p.server_version ∷ fixed (fixed_written p) ∷
    scramble_written p.scramble_2
    ∷ name_written p.auth_plugin_name ∷ []
    )

-- what is held of fixed length: the length as it was read or made
abbrev pub fixed_held : HandshakeFields → FixedFields
fixed_held p = record {
  connection_id = p.connection_id;
  scramble_1 = p.scramble_1;
  capabilities = p.capabilities;
  default_collation = p.default_collation;
  status_flags = p.status_flags;
  data_length = p.data_length;
  mariadb_ext_capabilities = p.mariadb_ext_capabilities;
}

-- a second scramble as it is held
abbrev pub scramble_held : Option (List ℕ) → List ℕ
scramble_held None = []
scramble_held (Some text) = text

-- the whole name of a plugin and a zero
abbrev pub name_held : Option (List ℕ) → List ℕ
name_held None = []
name_held (Some name) = name ++ 0 ∷ []

-- the packet as it is held: the length, the second scramble and the plugin's name as they were read or made
unfoldable pub greeting : HandshakeFields → List ℕ
greeting p = concat (
    little_bytes 1 p.protocol_version ∷ null_text p.server_version ∷ fixed (fixed_held p) ∷
    scramble_held p.scramble_2
    ∷ name_held p.auth_plugin_name ∷ []
    )

-- a second scramble has the length that is read of it
abbrev pub scramble_fits : ℕ → Option (List ℕ) → Bool
scramble_fits len None = true
scramble_fits len (Some text) = length text == max 13 (len - 8)

-- The capabilities, around the collation and the status. All bits of the capabilities have names; a
-- status with a bit that has none is refused.
unfoldable pub flags_at : List ℕ → Reading (ℕ × ℕ × ℕ)
flags_at bytes = do
  low ← fixed_number_at 2 bytes
  collation ← fixed_number_at 1 low.1
  status ← named_at status_named (fixed_number_at 2) collation.1
  high ← upper_half_at status.1
  Ok ((bit_or low.0 high.0, collation.0, status.0.0), high.1)

-- the fields of fixed length in their order; of MariaDB's own capabilities, bits without a name are dropped
unfoldable pub fixed_at : List ℕ → Reading FixedFields
fixed_at bytes = do
  id ← fixed_number_at 4 bytes
  scramble ← bytes_at 8 id.1
  filler ← skipped_at 1 scramble.1
  flags ← flags_at filler.1
  len ← fixed_number_at 1 flags.1
  reserved ← skipped_at 6 len.1
  mariadb ← fixed_number_at 4 reserved.1
  Ok (
    record {
      connection_id = id.0;
      scramble_1 = scramble.0;
      capabilities = flags.0.0;
      default_collation = flags.0.1;
      status_flags = flags.0.2;
      data_length = len.0;
      mariadb_ext_capabilities = bit_and mariadb.0 (known_bits mariadb_capabilities);
    },
    mariadb.1,
  )

-- the 31 bytes of these fields, which are there together or not at all
unfoldable pub block_at : List ℕ → Reading FixedFields
block_at bytes = do
  block ← bytes_at 31 bytes
  fixed ← fixed_at block.0
  Ok (fixed.0, block.1)

-- with SECURE_CONNECTION a second scramble, of the length less 8 but at least 13 bytes
unfoldable pub scramble_at : ℕ → ℕ → List ℕ → Reading (Option (List ℕ))
scramble_at capabilities len bytes =
    if contains capabilities secure_connection then (do
      text ← bare_at 247 (max 13 (len - 8)) bytes
      Ok (Some text.0, text.1))
    else Ok (None, bytes)

-- with PLUGIN_AUTH a name to the end, less one trailing zero
unfoldable pub name_at : ℕ → List ℕ → Reading (Option (List ℕ))
name_at capabilities bytes =
    if contains capabilities plugin_auth then Ok (Some (without_zero bytes), []) else Ok (
      None,
      bytes,
    )

-- a version byte, the server's version to a zero, the fields of fixed length, the second scramble and the plugin's name
unfoldable pub handshake_at : List ℕ → Reading HandshakeFields
handshake_at bytes = do
  protocol ← fixed_number_at 1 bytes
  server ← null_text_at protocol.1
  fixed ← block_at server.1
  scramble ← scramble_at fixed.0.capabilities fixed.0.data_length fixed.1
  name ← name_at fixed.0.capabilities scramble.1
  Ok (
    record {
      protocol_version = protocol.0;
      server_version = server.0;
      connection_id = fixed.0.connection_id;
      scramble_1 = fixed.0.scramble_1;
      capabilities = fixed.0.capabilities;
      default_collation = fixed.0.default_collation;
      status_flags = fixed.0.status_flags;
      data_length = fixed.0.data_length;
      mariadb_ext_capabilities = fixed.0.mariadb_ext_capabilities;
      scramble_2 = scramble.0;
      auth_plugin_name = name.0;
    },
    name.1,
  )

-- both scrambles, cut or padded with zeros to 20 bytes
abbrev pub nonce_of : HandshakeFields → List ℕ
nonce_of p = fixed_text 20 (p.scramble_1 ++ scramble_written p.scramble_2)
