-- OK and EOF packets, as they are written, and what is read of one that was.
-- MySQL: Client/Server Protocol, "OK_Packet", "EOF_Packet" and "Status Flags"; MariaDB: Client/Server
-- Protocol, "OK_Packet", 'Server status flag'.
use Rattle.std.specs.Prelude.{◌≡◌, ◌<◌, ◌^◌, ℕ, List, [], ◌∷◌, ◌++◌, length, Bool, true, ◌&&◌, if◌then◌else◌, Option}
use Rattle.std.specs.Prelude.{Some, None}
use Rattle.std.specs.List.{concat}
use Rattle.byteorder.specs.Endian.{little_bytes}
use Rattle.mysql_buf.specs.Writing.{lenenc_int, lenenc_str}
use Rattle.mysql_const.specs.StatusFlags.{status_flags}
use Rattle.mysql_field_constants.specs.Flags.{all_status_flags, are_named}
use Rattle.mysql_ok_packets.specs.OkPackets.{OkPacket, session_state_changed, session_track, unless_empty, unless_zero}

-- The number, or 0 for none.
abbrev pub or_zero : Option ℕ → ℕ
or_zero None = 0
or_zero (Some n) = n

-- The bytes, or none of them.
abbrev pub or_empty : Option (List ℕ) → List ℕ
or_empty None = []
or_empty (Some bytes) = bytes

-- A text after its length, where it isn't empty.
abbrev pub lenenc_unless_empty : List ℕ → List ℕ
lenenc_unless_empty [] = []
lenenc_unless_empty (b ∷ text) = lenenc_str (b ∷ text)

-- The session state stands in a packet of this status, for a client of these capabilities.
abbrev pub tells_state : ℕ → ℕ → Bool
tells_state capabilities status = session_track capabilities && session_state_changed status

-- What follows the warnings: the info and the session state where that stands there, else the info
-- where it isn't empty.
unfoldable pub info_bytes : ℕ → OkPacket → List ℕ
info_bytes capabilities p =
    if tells_state capabilities p.status_flags then lenenc_str (or_empty p.info) ++
    lenenc_str (or_empty p.session_state_info)
    else lenenc_unless_empty (or_empty p.info)

-- An OK packet behind its header.
abbrev pub ok_body_bytes : ℕ → OkPacket → List ℕ
ok_body_bytes capabilities p = concat (
    lenenc_int p.affected_rows
    ∷ lenenc_int (or_zero p.last_insert_id)
    ∷ little_bytes 2 p.status_flags
    ∷ little_bytes 2 p.warnings
    ∷ info_bytes capabilities p
    ∷ []
    )

-- An OK packet of this header: 0 where it answers a command, 254 where it ends a result set.
unfoldable pub ok_packet_bytes : ℕ → ℕ → OkPacket → List ℕ
ok_packet_bytes header capabilities p = header ∷ ok_body_bytes capabilities p

-- An EOF packet behind its header.
abbrev pub eof_body_bytes : OkPacket → List ℕ
eof_body_bytes p = little_bytes 2 p.warnings ++ little_bytes 2 p.status_flags

-- An EOF packet.
unfoldable pub eof_bytes : OkPacket → List ℕ
eof_bytes p = 254 ∷ eof_body_bytes p

-- The same packet with another status.
abbrev pub with_status : ℕ → OkPacket → OkPacket
with_status status p = record {
  affected_rows = p.affected_rows;
  last_insert_id = p.last_insert_id;
  status_flags = status;
  warnings = p.warnings;
  info = p.info;
  session_state_info = p.session_state_info;
}

-- What is read of an OK packet: an id of 0 is none, empty texts are none, and the session state is
-- there where it stands.
abbrev pub as_ok : ℕ → OkPacket → OkPacket
as_ok capabilities p = record {
  affected_rows = p.affected_rows;
  last_insert_id = unless_zero (or_zero p.last_insert_id);
  status_flags = p.status_flags;
  warnings = p.warnings;
  info = unless_empty (or_empty p.info);
  session_state_info = if tells_state capabilities p.status_flags then unless_empty
      (or_empty p.session_state_info) else None;
}

-- What is read of one that ends a result set: the same without rows and id.
abbrev pub as_terminator : ℕ → OkPacket → OkPacket
as_terminator capabilities p = as_ok capabilities (record {
  affected_rows = 0;
  last_insert_id = None;
  status_flags = p.status_flags;
  warnings = p.warnings;
  info = p.info;
  session_state_info = p.session_state_info;
})

-- What is read of an EOF packet: status and warnings alone.
abbrev pub as_eof : OkPacket → OkPacket
as_eof p = record {
  affected_rows = 0;
  last_insert_id = None;
  status_flags = p.status_flags;
  warnings = p.warnings;
  info = None;
  session_state_info = None;
}

-- Each bit of the status has a name at MySQL or MariaDB; bit 2 (4) has none.
abbrev pub is_named_status : ℕ → Bool
is_named_status status = are_named all_status_flags status

-- Each bit of the status has a name at MySQL; bits 2 and 15 (4 and 0x8000) have none there.
abbrev pub is_mysql_status : ℕ → Bool
is_mysql_status status = are_named status_flags status

-- Numbers and lengths fit their fields, and each bit of the status has a name.
pub record IsWritable (p : OkPacket) : Type 0 where
  pub affected_rows : p.affected_rows < 2 ^ 64
  pub last_insert_id : or_zero p.last_insert_id < 2 ^ 64
  pub status_flags : p.status_flags < 2 ^ 16
  pub named : is_named_status p.status_flags ≡ true
  pub warnings : p.warnings < 2 ^ 16
  pub info : length (or_empty p.info) < 2 ^ 64
  pub session_state_info : length (or_empty p.session_state_info) < 2 ^ 64
