-- Changes of a session's state, as values and as bytes.
-- MySQL: Client/Server Protocol, "OK_Packet", 'Session State Information'; MariaDB: Client/Server
-- Protocol, "OK_Packet", 'Session State Info'.
-- A reading takes bytes from the front: x.0 is what was read and x.1 the bytes left; the first refusal counts.
use Rattle.std.specs.Prelude.{◌≡◌, ◌<◌, ◌^◌, ℕ, ⊤, List, [], ◌∷◌, ◌++◌, length, Bool, true, false, Option, Some, None}
use Rattle.std.specs.Prelude.{Ok, if◌then◌else◌}
use Rattle.std.specs.List.{AllByRecursion, flat_map}
use Rattle.std.specs.Str.{bytes_eq}
use Rattle.byteorder.specs.Endian.{little_bytes}
use Rattle.mysql_buf.specs.Writing.{lenenc_str}
use Rattle.mysql_const.specs.SessionStates.{session_state_named, session_state_number}
use Rattle.mysql_const.specs.declared.session_state.SessionStateType.{SessionStateType}
use Rattle.mysql_const.specs.declared.session_state.SessionStateType.TheVariants.{SESSION_TRACK_SYSTEM_VARIABLES}
use Rattle.mysql_const.specs.declared.session_state.SessionStateType.TheVariants.{SESSION_TRACK_SCHEMA}
use Rattle.mysql_const.specs.declared.session_state.SessionStateType.TheVariants.{SESSION_TRACK_STATE_CHANGE}
use Rattle.mysql_const.specs.declared.session_state.SessionStateType.TheVariants.{SESSION_TRACK_GTIDS}
use Rattle.mysql_const.specs.declared.session_state.SessionStateType.TheVariants.{
  SESSION_TRACK_TRANSACTION_CHARACTERISTICS,
}
use Rattle.mysql_const.specs.declared.session_state.SessionStateType.TheVariants.{SESSION_TRACK_TRANSACTION_STATE}
use Rattle.mysql_fields.specs.Forms.{fixed_number_at}
use Rattle.mysql_fields.specs.Wire.{Reading, ◌>>=◌}
use Rattle.mysql_fields.specs.Texts.{lenenc_text_at}
use Rattle.mysql_field_constants.specs.Constants.{named_at}
use Rattle.mysql_ok_packets.specs.Reading.{to_end_at}

-- A text to the end.
abbrev pub rest_at : List ℕ → Reading (List ℕ)
rest_at bytes = Ok (bytes, [])

-- A system variable: its name and its value.
pub record Variable : Type 0 where
  pub name : List ℕ
  pub value : List ℕ

unfoldable pub variable : Variable → List ℕ
variable v = lenenc_str v.name ++ lenenc_str v.value

unfoldable pub variable_at : List ℕ → Reading Variable
variable_at bytes = do
  name ← lenenc_text_at bytes
  value ← lenenc_text_at name.1
  Ok (record { name = name.0; value = value.0 }, value.1)

pub record IsVariable (v : Variable) : Type 0 where
  pub name : length v.name < 2 ^ 64
  pub value : length v.value < 2 ^ 64

-- A change: whether changes are tracked, the schema, system variables, GTIDs, how transactions are
-- begun, the state of one, or what is of no known type.
pub data Change : Type 0 where
  IsTracked : Bool → Change
  Schema : List ℕ → Change
  SystemVariables : List Variable → Change
  Gtids : List ℕ → Change
  TransactionCharacteristics : List ℕ → Change
  TransactionState : List ℕ → Change
  Unsupported : List ℕ → Change

-- Tracked is written as the text `1`, untracked as `0`.
abbrev pub tracking : Bool → List ℕ
tracking true = 49 ∷ []
tracking false = 48 ∷ []

unfoldable pub change : Change → List ℕ
change (IsTracked tracked) = lenenc_str (tracking tracked)
change (Schema name) = lenenc_str name
change (SystemVariables all) = flat_map variable all
change (Gtids set) = set
change (TransactionCharacteristics statements) = lenenc_str statements
change (TransactionState letters) = lenenc_str letters
change (Unsupported bytes) = lenenc_str bytes

-- Whether changes are tracked: the digit after its length, or alone, as MariaDB writes it.
abbrev pub tracking_at : List ℕ → Reading Bool
tracking_at bytes =
    if bytes_eq bytes (tracking true) then Ok (true, [])
    else if bytes_eq bytes (tracking false) then Ok (false, [])
    else lenenc_text_at bytes >>= λ text. Ok (bytes_eq text.0 (tracking true), text.1)

-- A change is read by its type.
unfoldable pub change_at : SessionStateType → List ℕ → Reading Change
change_at SESSION_TRACK_SYSTEM_VARIABLES bytes =
    to_end_at variable_at bytes >>= λ all. Ok (SystemVariables all.0, all.1)
change_at SESSION_TRACK_SCHEMA bytes = lenenc_text_at bytes >>= λ name. Ok (Schema name.0, name.1)
change_at SESSION_TRACK_STATE_CHANGE bytes = tracking_at bytes >>= λ tracked. Ok (IsTracked tracked.0, tracked.1)
change_at SESSION_TRACK_GTIDS bytes = rest_at bytes >>= λ set. Ok (Gtids set.0, set.1)
change_at SESSION_TRACK_TRANSACTION_CHARACTERISTICS bytes =
    lenenc_text_at bytes >>= λ text. Ok (TransactionCharacteristics text.0, text.1)
change_at SESSION_TRACK_TRANSACTION_STATE bytes = lenenc_text_at bytes >>= λ text. Ok (TransactionState text.0, text.1)

-- The type that a change has; none reads what is unsupported.
abbrev pub type_of : Change → Option SessionStateType
type_of (IsTracked tracked) = Some SESSION_TRACK_STATE_CHANGE
type_of (Schema name) = Some SESSION_TRACK_SCHEMA
type_of (SystemVariables all) = Some SESSION_TRACK_SYSTEM_VARIABLES
type_of (Gtids set) = Some SESSION_TRACK_GTIDS
type_of (TransactionCharacteristics statements) = Some SESSION_TRACK_TRANSACTION_CHARACTERISTICS
type_of (TransactionState letters) = Some SESSION_TRACK_TRANSACTION_STATE
type_of (Unsupported bytes) = None

-- Texts have lengths of 64 bits, and nothing follows what stands to the end.
abbrev pub IsWhole : Change → List ℕ → Type 0
IsWhole (IsTracked tracked) rest = ⊤
IsWhole (Schema name) rest = length name < 2 ^ 64
IsWhole (SystemVariables all) rest = AllByRecursion IsVariable all × (rest ≡ [])
IsWhole (Gtids set) rest = rest ≡ []
IsWhole (TransactionCharacteristics statements) rest = length statements < 2 ^ 64
IsWhole (TransactionState letters) rest = length letters < 2 ^ 64
IsWhole (Unsupported bytes) rest = ⊤

-- A change that was written is read by this type, with these bytes following.
abbrev pub IsReadBy : SessionStateType → Change → List ℕ → Type 0
IsReadBy type c rest = (type_of c ≡ Some type) × IsWhole c rest

-- A state: the type of a change, and its data after their length.
pub record State : Type 0 where
  pub data_type : SessionStateType
  pub content : List ℕ

-- The state of this type that tells a change.
abbrev pub state_of : Change → SessionStateType → State
state_of c type = record { data_type = type; content = change c }

unfoldable pub state : State → List ℕ
state s = little_bytes 1 (session_state_number s.data_type) ++ lenenc_str s.content

unfoldable pub state_at : List ℕ → Reading State
state_at bytes = do
  data_type ← named_at session_state_named (fixed_number_at 1) bytes
  content ← lenenc_text_at data_type.1
  Ok (record { data_type = data_type.0; content = content.0 }, content.1)

pub record IsState (s : State) : Type 0 where
  pub content : length s.content < 2 ^ 64

-- All states of an OK packet.
abbrev pub states_at : List ℕ → Reading (List State)
states_at bytes = to_end_at state_at bytes
