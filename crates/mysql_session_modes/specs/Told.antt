-- What an OK packet tells of the variables sql_mode and character_set_client, and so of its session.
-- MySQL: Client/Server Protocol, "OK_Packet", 'Session State Information' (SESSION_TRACK_SYSTEM_VARIABLES); MySQL
-- Reference Manual, "Server SQL Modes", "Server Tracking of Client Session State".
use Rattle.std.specs.Prelude.{ℕ, Bool, not, ◌&&◌, if◌then◌else◌, codes, List, Option, Some, None, Ok, Err}
use Rattle.std.specs.List.{fold}
use Rattle.std.specs.Str.{bytes_eq}
use Rattle.mysql_bytes.specs.Modes.{mode_of_sql_mode}
use Rattle.mysql_const.specs.FlagSets.{contains}
use Rattle.mysql_const.specs.declared.session_state.SessionStateType.{SessionStateType}
use Rattle.mysql_const.specs.declared.session_state.SessionStateType.TheVariants.{SESSION_TRACK_SYSTEM_VARIABLES}
use Rattle.mysql_fields.specs.Wire.{Reading}
use Rattle.mysql_ok_packets.specs.OkPackets.{OkPacket, all_states_at}
use Rattle.mysql_session_modes.specs.SessionModes.{is_safe_set}
use Rattle.mysql_session_modes.specs.declared.session_mode.SessionMode.{SessionMode}
use Rattle.mysql_ok_packets.specs.Reading.{to_end_at}
use Rattle.mysql_ok_packets.specs.SessionStates.{State, Variable, variable_at}

-- What is told of a variable: nothing, this value, or what can't be read.
pub data Told : Type 0 where
  Nothing : Told
  Value : List ℕ → Told
  Unreadable : Told

-- Behind elements that were read, one after another; or where they can't be.
abbrev pub walked : {A Y : Type 0} → (A → Y → A) → A → A → Reading (List Y) → A
walked step failed so_far (Ok all) = fold step so_far all.0
walked step failed so_far (Err e) = failed

-- Behind a variable: of several values of the one with this name the last one counts.
abbrev pub told_by_variable : (name : List ℕ) → Told → Variable → Told
told_by_variable name told v = if bytes_eq v.name name then Value v.value else told

abbrev pub told_by_variables : (name : List ℕ) → Told → List ℕ → Told
told_by_variables name told content = walked (told_by_variable name) Unreadable told (to_end_at variable_at content)

-- Behind a state of the session.
abbrev pub told_by_content : (name : List ℕ) → SessionStateType → List ℕ → Told → Told
told_by_content name SESSION_TRACK_SYSTEM_VARIABLES content told = told_by_variables name told content
told_by_content name type content told = told

abbrev pub told_by_state : (name : List ℕ) → Told → State → Told
told_by_state name told s = told_by_content name s.data_type s.content told

-- What a packet tells of a variable.
abbrev pub told_by : (name : List ℕ) → OkPacket → Told
told_by name ok = walked (told_by_state name) Unreadable Nothing (all_states_at ok.session_state_info)

-- SERVER_MORE_RESULTS_EXISTS: a routine goes on behind this result, and at its end the server takes back what
-- it set, which not all of its packets tell.
abbrev pub more_results_bit : ℕ
more_results_bit = 8

-- What was known stays behind silence. What is told is known where it counts and no further results
-- follow; else it isn't known.
abbrev pub known_behind : {X : Type 0} → (counts : Bool) → (value_of : List ℕ → Option X) → Told → Option X → Option X
known_behind counts value_of Nothing known = known
known_behind counts value_of (Value value) known = if counts then value_of value else None
known_behind counts value_of Unreadable known = None

-- What an OK packet tells counts.
abbrev pub does_count : SessionMode → OkPacket → Bool
does_count s ok = s.counts && not (contains ok.status_flags more_results_bit)

-- What is known of the session behind an OK packet of a reply. Its status tells nothing.
unfoldable pub mode_behind_ok : SessionMode → OkPacket → SessionMode
mode_behind_ok s ok = record s {
  mode = known_behind (does_count s ok) mode_of_sql_mode (told_by (codes "sql_mode") ok) s.mode;
  is_safe_set =
      known_behind (does_count s ok) (λ name. Some (is_safe_set name)) (told_by (codes "character_set_client") ok)
      s.is_safe_set;
}
