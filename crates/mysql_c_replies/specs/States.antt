-- Changes of the session's state that an OK packet tells, each read by the position where it begins.
-- (MySQL: Client/Server Protocol, "OK_Packet", 'Session State Information'.)
use Rattle.std.specs.Prelude.{◌≡◌, ◌⊎◌, ◌<◌, ◌≤◌, ℕ, suc, List, Option, Ok, Err, drop, length, MatchOption, MatchResult}
use Rattle.std.specs.Prelude.{slice_get}
use Rattle.mysql_const.specs.SessionStates.{session_state_number}
use Rattle.mysql_ok_packets.specs.OkPackets.{all_states_at}
use Rattle.mysql_ok_packets.specs.Written.{or_empty}
use Rattle.mysql_fields.specs.Wire.{Reading}
use Rattle.mysql_field_lists.specs.Lists.{elements_at}
use Rattle.mysql_ok_packets.specs.SessionStates.{State, state_at}
use Rattle.mysql_c_handles.specs.declared.code.Code.TheVariants as code
use Rattle.mysql_c_handles.specs.Codes.{code_number}

-- the first k changes take the bytes before this position
abbrev pub IsPositionOf : List ℕ → ℕ → ℕ → Type 0
IsPositionOf bytes k position =
    (position ≤ length bytes) ×
    ((states : List State) × (elements_at state_at k bytes ≡ Ok (states, drop position bytes)))

-- a change is shown: its type, and its bytes by their length
abbrev pub ShowsChange : State → ℕ → ℕ → Type 0
ShowsChange change type len = (type ≡ session_state_number change.data_type) × (len ≡ length change.content)

-- What stands at a position is read: a change is shown, and the next position is behind it; or it
-- is no change, and the position stays.
abbrev pub ReadsAt : List ℕ → ℕ → ℕ → ℕ → ℕ → ℕ → Type 0
ReadsAt bytes position number next type len =
    MatchResult (state_at (drop position bytes))
    (λ x. (number ≡ 0) × ShowsChange x.0 type len × (x.1 ≡ drop next bytes) × (position < next) × (next ≤ length bytes))
    (λ e. (number ≡ code_number code.BadPacket) × (next ≡ position))

-- The change of this number is shown, and the position is that of the next one; or there are no
-- more. Where some change can't be read, those before it are shown all the same.
abbrev pub ShowsNumbered : Reading (List State) → List ℕ → ℕ → ℕ → ℕ → ℕ → ℕ → Type 0
ShowsNumbered (Ok x) bytes k number next type len =
    MatchOption (slice_get x.0 k) (number ≡ code_number code.OutOfRange)
    (λ change. (number ≡ 0) × ShowsChange change type len × IsPositionOf bytes (suc k) next)
ShowsNumbered (Err e) bytes k number next type len =
    ((number ≡ 0) × IsPositionOf bytes (suc k) next) ⊎ (number ≡ code_number code.BadPacket)

-- One change is read, at a position: behind the last there is none. From the position of k changes
-- on it is the change of the number k.
pub record ShowsChangeAt (states : Option (List ℕ)) (position number next type len : ℕ) : Type 0 where
  pub over : length (or_empty states) ≤ position → (number ≡ code_number code.OutOfRange) × (next ≡ position)
  pub read : position < length (or_empty states) → ReadsAt (or_empty states) position number next type len
  pub numbered : (k : ℕ) → IsPositionOf (or_empty states) k position →
      ShowsNumbered (all_states_at states) (or_empty states) k number next type len
