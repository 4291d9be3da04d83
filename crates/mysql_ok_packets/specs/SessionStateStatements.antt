-- The laws of session states: what was written is read again.
use Rattle.std.specs.Prelude.{◌≡◌, ◌<◌, ◌^◌, ℕ, List, [], ◌++◌, length, Ok}
use Rattle.std.specs.List.{AllByRecursion, flat_map}
use Rattle.mysql_buf.specs.Writing.{lenenc_str}
use Rattle.mysql_const.specs.declared.session_state.SessionStateType.{SessionStateType}
use Rattle.mysql_fields.specs.Texts.{lenenc_text_at}
use Rattle.mysql_ok_packets.specs.SessionStates.{Change, IsReadBy, IsState, IsVariable, State, Variable, change}
use Rattle.mysql_ok_packets.specs.SessionStates.{change_at, rest_at, state, state_at, states_at, variable}
use Rattle.mysql_ok_packets.specs.SessionStates.{variable_at}

-- a member after its length, whatever follows
abbrev pub TextsReadBack : Type 0
TextsReadBack = (text rest : List ℕ) → length text < 2 ^ 64 → lenenc_text_at (lenenc_str text ++ rest) ≡ Ok (text, rest)

-- with nothing following
abbrev pub GtidsReadBack : Type 0
GtidsReadBack = (set : List ℕ) → rest_at set ≡ Ok (set, [])

-- whatever follows
abbrev pub VariablesReadBack : Type 0
VariablesReadBack = (v : Variable) (rest : List ℕ) → IsVariable v → variable_at (variable v ++ rest) ≡ Ok (v, rest)

-- by its own type; with nothing following where it stands to the end
abbrev pub ChangesReadBack : Type 0
ChangesReadBack = (type : SessionStateType) (c : Change) (rest : List ℕ) → IsReadBy type c rest →
    change_at type (change c ++ rest) ≡ Ok (c, rest)

-- whatever follows
abbrev pub StatesReadBack : Type 0
StatesReadBack = (s : State) (rest : List ℕ) → IsState s → state_at (state s ++ rest) ≡ Ok (s, rest)

-- states one after another, with nothing following
abbrev pub ListsOfStatesReadBack : Type 0
ListsOfStatesReadBack = (all : List State) → AllByRecursion IsState all → states_at (flat_map state all) ≡ Ok (all, [])
