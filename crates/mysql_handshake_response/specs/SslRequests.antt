-- The request for a secure connection, which is also what stands first in a client's answer to the
-- handshake. (MySQL: Client/Server Protocol, "Protocol::SSLRequest"; MariaDB: Client/Server
-- Protocol, "Connecting", "SSLRequest Packet".) A reading takes bytes from the front: x.0 is what
-- was read and x.1 the bytes left; the first refusal counts.
use Rattle.std.specs.Prelude.{◌≡◌, ◌<◌, ◌^◌, ℕ, List, [], ◌∷◌, replicate, Ok}
use Rattle.std.specs.Int.RustNames.{bit_and}
use Rattle.std.specs.List.{concat}
use Rattle.byteorder.specs.Endian.{little_bytes}
use Rattle.bitflags.specs.Sets.{known_bits}
use Rattle.mysql_const.specs.CapabilityFlags.{capability_flags}
use Rattle.mysql_const.specs.MariadbCapabilities.{mariadb_capabilities}
use Rattle.mysql_fields.specs.Forms.{fixed_number_at}
use Rattle.mysql_fields.specs.Wire.{Reading, from_block, ◌>>=◌}
use Rattle.mysql_field_constants.specs.Constants.{skipped_at}

-- the bits that have names
abbrev pub capability_bits : ℕ
capability_bits = known_bits capability_flags

abbrev pub mariadb_bits : ℕ
mariadb_bits = known_bits mariadb_capabilities

-- what a client can do, the longest packet that it takes, its collation, what it can do by MariaDB's own protocol
pub record SslRequestFields : Type 0 where
  pub capabilities : ℕ
  pub max_packet_size : ℕ
  pub character_set : ℕ
  pub mariadb_capabilities : ℕ

-- the fields in that order, with 19 zeros before the last
unfoldable pub ssl_request : SslRequestFields → List ℕ
ssl_request p = concat (
    little_bytes 4 p.capabilities ∷ little_bytes 4 p.max_packet_size ∷ little_bytes 1 p.character_set ∷ replicate 19 0
    ∷ little_bytes 4 p.mariadb_capabilities ∷ []
    )

-- the fields that stand first; bits without a name are dropped
unfoldable pub ssl_fields_at : List ℕ → Reading SslRequestFields
ssl_fields_at bytes = do
  capabilities ← fixed_number_at 4 bytes
  size ← fixed_number_at 4 capabilities.1
  set ← fixed_number_at 1 size.1
  filler ← skipped_at 19 set.1
  mariadb ← fixed_number_at 4 filler.1
  Ok (
    record {
      capabilities = bit_and capabilities.0 capability_bits;
      max_packet_size = size.0;
      character_set = set.0;
      mariadb_capabilities = bit_and mariadb.0 mariadb_bits;
    },
    mariadb.1,
  )

-- 32 bytes, or the end comes too soon
unfoldable pub ssl_request_at : List ℕ → Reading SslRequestFields
ssl_request_at bytes = from_block 32 ssl_fields_at bytes

-- what is read back: numbers that fit, and bits that have names
pub record IsSslRequest (p : SslRequestFields) : Type 0 where
  pub capabilities : p.capabilities < 2 ^ 32
  pub max_packet_size : p.max_packet_size < 2 ^ 32
  pub character_set : p.character_set < 2 ^ 8
  pub mariadb_capabilities : p.mariadb_capabilities < 2 ^ 32
  pub capabilities_named : bit_and p.capabilities capability_bits ≡ p.capabilities
  pub mariadb_named : bit_and p.mariadb_capabilities mariadb_bits ≡ p.mariadb_capabilities
