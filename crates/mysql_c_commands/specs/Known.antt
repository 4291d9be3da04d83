-- What C sees of what is known of a session: flags, and two bits.
-- MySQL Reference Manual, "Server SQL Modes", "Server Tracking of Client Session State".
use Rattle.std.specs.Prelude.{◌≡◌, ◌+◌, ℕ, List, Some, None, is_some, not, if◌then◌else◌}
use Rattle.mysql_ok_packets.specs.OkPackets.{OkPacket, unless_empty}
use Rattle.mysql_session_modes.specs.SessionModes.{BehindText, is_true}
use Rattle.mysql_session_modes.specs.declared.session_mode.SessionMode.{SessionMode}
use Rattle.mysql_c_commands.specs.Modes.{has_flag, mode_number}
use Rattle.mysql_c_commands.specs.declared.known.ShownSession.{ShownSession}

-- The flags of what is known: 8 where the mode isn't, and 4 unless the character set is safe.
abbrev pub flags_known : SessionMode → ℕ
flags_known s = if is_true s.is_safe_set then mode_number s.mode else mode_number s.mode + 4

abbrev pub session_shown : SessionMode → ShownSession
session_shown s = record { flags = flags_known s; set_known = is_some s.is_safe_set; counts = s.counts }

-- The same read back: nothing of it is lost.
abbrev pub session_known : ShownSession → SessionMode
session_known shown = record {
  mode =
      if has_flag shown.flags 8 then None
      else Some (record { no_backslash_escapes = has_flag shown.flags 1; ansi_quotes = has_flag shown.flags 2 });
  is_safe_set = if shown.set_known then Some (not (has_flag shown.flags 4)) else None;
  counts = shown.counts;
}

-- What is shown behind a statement that is sent as this text.
abbrev pub IsBehindText : List ℕ → ShownSession → ShownSession → Type 0
IsBehindText text old new =
    (s : SessionMode) × BehindText text (session_known old) s × (new ≡ session_shown s)

-- The OK packet with this status that tells these changes of the session, and nothing else.
abbrev pub ok_telling : (status : ℕ) → List ℕ → OkPacket
ok_telling status changes = record {
  affected_rows = 0;
  last_insert_id = None;
  status_flags = status;
  warnings = 0;
  info = None;
  session_state_info = unless_empty changes;
}
