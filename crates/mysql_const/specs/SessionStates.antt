-- Changes of a session's state by their numbers.
-- MySQL: Client/Server Protocol, "OK_Packet", 'Session State Information' (enum_session_state_type).
use Rattle.std.specs.Prelude.{◌∷◌, [], List, Option, ℕ, nat_eq}
use Rattle.mysql_const.specs.Tables.{numbered, entry_of}
use Rattle.mysql_const.specs.declared.session_state.SessionStateType.{SessionStateType}
use Rattle.mysql_const.specs.declared.session_state.SessionStateType.TheVariants.{SESSION_TRACK_SYSTEM_VARIABLES}
use Rattle.mysql_const.specs.declared.session_state.SessionStateType.TheVariants.{SESSION_TRACK_SCHEMA}
use Rattle.mysql_const.specs.declared.session_state.SessionStateType.TheVariants.{SESSION_TRACK_STATE_CHANGE}
use Rattle.mysql_const.specs.declared.session_state.SessionStateType.TheVariants.{SESSION_TRACK_GTIDS}
use Rattle.mysql_const.specs.declared.session_state.SessionStateType.TheVariants.{
  SESSION_TRACK_TRANSACTION_CHARACTERISTICS,
}
use Rattle.mysql_const.specs.declared.session_state.SessionStateType.TheVariants.{SESSION_TRACK_TRANSACTION_STATE}

-- each name's number
abbrev pub session_state_number : SessionStateType → ℕ
session_state_number SESSION_TRACK_SYSTEM_VARIABLES = 0
session_state_number SESSION_TRACK_SCHEMA = 1
session_state_number SESSION_TRACK_STATE_CHANGE = 2
session_state_number SESSION_TRACK_GTIDS = 3
session_state_number SESSION_TRACK_TRANSACTION_CHARACTERISTICS = 4
session_state_number SESSION_TRACK_TRANSACTION_STATE = 5

-- the table: each number and its name
abbrev pub session_states : List (ℕ × SessionStateType)
session_states =
    numbered session_state_number (
    SESSION_TRACK_SYSTEM_VARIABLES ∷ SESSION_TRACK_SCHEMA ∷ SESSION_TRACK_STATE_CHANGE ∷ SESSION_TRACK_GTIDS
    ∷ SESSION_TRACK_TRANSACTION_CHARACTERISTICS ∷ SESSION_TRACK_TRANSACTION_STATE ∷ [])

-- the name of a number, where it has one
abbrev pub session_state_named : ℕ → Option SessionStateType
session_state_named number = entry_of nat_eq session_states number
