-- OK packets as values, without where they lie in memory (MySQL: Client/Server Protocol, "OK_Packet").
use Rattle.std.specs.Prelude.{◌≡◌, ℕ, List, Option, option_map, Result, Ok, Err}
use Rattle.std.specs.Cow.{cow_slice_items}
use Rattle.std.specs.declared.alloc.Global.{Global}
use Rattle.std.specs.declared.borrow.CowSlice.{CowSlice}
use Rattle.mysql_fields.specs.declared.error.WireError.{WireError}
use Rattle.mysql_ok_packets.specs.declared.body.OkPacketBody.{OkPacketBody}
use Rattle.mysql_ok_packets.specs.declared.ok_packet.OkPacket.{OkPacket as OkPacketOf}
use Rattle.mysql_ok_packets.specs.OkPackets.{OkPacket, unless_empty, unless_zero}

-- Bytes, where there are any.
abbrev pub bytes_view : Option (CowSlice ℕ Global) → Option (List ℕ)
bytes_view bytes = option_map (λ some. cow_slice_items some) bytes

abbrev pub ok_packet_view : OkPacketOf → OkPacket
ok_packet_view p = record {
  affected_rows = p.affected_rows;
  last_insert_id = p.last_insert_id;
  status_flags = p.status_flags.0;
  warnings = p.warnings;
  info = bytes_view p.info;
  session_state_info = bytes_view p.session_state_info;
}

-- What the body of a packet says.
abbrev pub body_view : OkPacketBody → OkPacket
body_view b = record {
  affected_rows = b.affected_rows;
  last_insert_id = unless_zero b.last_insert_id;
  status_flags = b.status_flags.0;
  warnings = b.warnings;
  info = unless_empty b.info.now;
  session_state_info = unless_empty b.session_state_info.now;
}

-- A packet says what its body says, and none is refused.
abbrev pub IsPacketOf : OkPacketBody → Result OkPacketOf WireError → Type 0
IsPacketOf body (Ok p) = ok_packet_view p ≡ body_view body
IsPacketOf body (Err e) = ⊥
