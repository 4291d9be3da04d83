-- What C sees of an event: each field of its struct is set, so that nothing stays of an earlier event; texts
-- by their lengths. Here what several events have.
use Rattle.std.specs.Prelude.{ℕ, List, [], ◌∷◌, false, Option, Some, None, length}
use Rattle.mysql_ok_packets.specs.OkPackets.{OkPacket}
use Rattle.mysql_ok_packets.specs.Written.{or_empty, or_zero}
use Rattle.mysql_server_packets.specs.Packets.{ServerError}
use Rattle.mysql_c_connection_events.specs.declared.shown.ShownEvent.{ShownEvent}

-- an event that tells nothing, but for where texts of no bytes stand
abbrev pub nothing_shown : ShownEvent → ShownEvent
nothing_shown shown = record shown {
  kind = 0;
  side = 0;
  statement = 0;
  capabilities = 0;
  mariadb_capabilities = 0;
  number = 0;
  flags = 0;
  status = 0;
  warnings = 0;
  error_code = 0;
  charset = 0;
  affected_rows = 0;
  last_insert_id = 0;
  position = 0;
  columns = 0;
  rows = 0;
  params = 0;
  attributes = 0;
  len = 0;
  user_len = 0;
  database_len = 0;
  plugin_len = 0;
  data_len = 0;
  state = 0 ∷ 0 ∷ 0 ∷ 0 ∷ 0 ∷ [];
  state_len = 0;
  follows = false;
}

-- an event of this kind and side
abbrev pub blank_shown : ℕ → ℕ → ShownEvent → ShownEvent
blank_shown kind side shown = record (nothing_shown shown) { kind = kind; side = side }

-- one with a text
abbrev pub text_shown : ℕ → ℕ → List ℕ → ShownEvent → ShownEvent
text_shown kind side text shown = record (nothing_shown shown) { kind = kind; side = side; len = length text }

-- one with data
abbrev pub data_shown : ℕ → ℕ → List ℕ → ShownEvent → ShownEvent
data_shown kind side bytes shown = record (nothing_shown shown) { kind = kind; side = side; data_len = length bytes }

-- one with a number
abbrev pub number_shown : ℕ → ℕ → ℕ → ShownEvent → ShownEvent
number_shown kind side number shown = record (nothing_shown shown) { kind = kind; side = side; number = number }

-- one with a statement's id
abbrev pub statement_shown : ℕ → ℕ → ℕ → ShownEvent → ShownEvent
statement_shown kind side id shown = record (nothing_shown shown) { kind = kind; side = side; statement = id }

-- an OK packet of the server's: its text is what it tells, its data the changes of the session's state
abbrev pub packet_shown : ℕ → OkPacket → ShownEvent → ShownEvent
packet_shown kind ok shown = record (nothing_shown shown) {
  kind = kind;
  side = 1;
  affected_rows = ok.affected_rows;
  last_insert_id = or_zero ok.last_insert_id;
  status = ok.status_flags;
  warnings = ok.warnings;
  len = length (or_empty ok.info);
  data_len = length (or_empty ok.session_state_info);
}

-- the SQL state of an error, by its bytes
abbrev pub state_shown : Option (List ℕ) → ShownEvent → ShownEvent
state_shown None shown = shown
state_shown (Some state) shown = record shown { state = state; state_len = 5 }

-- an error of the server's: its text is the message
abbrev pub error_shown : ℕ → ServerError → ShownEvent → ShownEvent
error_shown kind error shown = record (state_shown error.sql_state (nothing_shown shown)) {
  kind = kind;
  side = 1;
  error_code = error.error_code;
  len = length error.error_message;
}
