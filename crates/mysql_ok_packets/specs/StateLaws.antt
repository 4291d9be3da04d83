-- What was written of a session's state is read again, and each variable and each state takes bytes.
use Rattle.std.proofs.Common.{◌≡◌, ◌<◌, ◌≤◌, ℕ, zero, suc, List, [], ◌∷◌, ◌++◌, length, true, false, Some, Ok, refl}
use Rattle.std.proofs.Common.{sym, ap, ◌∙◌, append-nil, append_assoc, arith, lit<}
use Rattle.std.proofs.lemmas.List.{length-drop}
use Rattle.std.specs.List.{AllByRecursion, flat_map}
use Rattle.byteorder.specs.Endian.{little_bytes}
use Rattle.mysql_buf.specs.Writing.{lenenc_str}
use Rattle.mysql_const.specs.NamedLaws.{session_state-names_back}
use Rattle.mysql_const.specs.SessionStates.{session_state_named, session_state_number}
use Rattle.mysql_const.specs.declared.session_state.SessionStateType.{SessionStateType}
use Rattle.mysql_const.specs.declared.session_state.SessionStateType.TheVariants.{SESSION_TRACK_SYSTEM_VARIABLES}
use Rattle.mysql_const.specs.declared.session_state.SessionStateType.TheVariants.{SESSION_TRACK_SCHEMA}
use Rattle.mysql_const.specs.declared.session_state.SessionStateType.TheVariants.{SESSION_TRACK_STATE_CHANGE}
use Rattle.mysql_const.specs.declared.session_state.SessionStateType.TheVariants.{SESSION_TRACK_GTIDS}
use Rattle.mysql_const.specs.declared.session_state.SessionStateType.TheVariants.{
  SESSION_TRACK_TRANSACTION_CHARACTERISTICS,
}
use Rattle.mysql_const.specs.declared.session_state.SessionStateType.TheVariants.{SESSION_TRACK_TRANSACTION_STATE}
use Rattle.mysql_fields.specs.Forms.{fixed_number_at}
use Rattle.mysql_fields.specs.Laws.{bind_ok, done, fixed_number_at-back, fixed_number_at-sized, eaten_first}
use Rattle.mysql_fields.specs.Wire.{Reading, ◌>>=◌}
use Rattle.mysql_fields.specs.TextLaws.{lenenc_text_at-back}
use Rattle.mysql_fields.specs.Texts.{lenenc_text_at}
use Rattle.mysql_field_constants.specs.ConstantLaws.{named_at-back, named_at-sized}
use Rattle.mysql_field_constants.specs.Constants.{named_at}
use Rattle.mysql_ok_packets.specs.Reading.{EatsBytes, at_most_at}
use Rattle.mysql_ok_packets.specs.ReadingLaws.{before_others, text-shorter}
use Rattle.mysql_ok_packets.specs.SessionStates.{Change, IsTracked, Schema, SystemVariables, Gtids}
use Rattle.mysql_ok_packets.specs.SessionStates.{TransactionCharacteristics, TransactionState, Unsupported}
use Rattle.mysql_ok_packets.specs.SessionStates.{IsReadBy, IsState, IsVariable, State, Variable, change, change_at}
use Rattle.mysql_ok_packets.specs.SessionStates.{state, state_at, states_at, tracking, variable, variable_at}

pub variable_at-eats : EatsBytes variable_at
unfolding variable_at
variable_at-eats bytes p h =
    let name = bind_ok (lenenc_text_at bytes) _ p h in
    let value = bind_ok (lenenc_text_at name.0.1) _ p name.2 in
    let one = text-shorter bytes name.0 name.1 in
    let two = text-shorter name.0.1 value.0 value.1 in
    let v : Variable = record { name = name.0.0; value = value.0.0 } in
    let end : (v, value.0.1) ≡ p = cc (value.2) in
    let left = ap (λ (q : Variable × List ℕ). length q.1) end in
    omega arith

pub variable_at-back : (v : Variable) (rest : List ℕ) → IsVariable v → variable_at (variable v ++ rest) ≡ Ok (v, rest)
unfolding variable variable_at
variable_at-back v rest h =
    ap variable_at (append_assoc (lenenc_str v.name) (lenenc_str v.value) rest)
    ∙ rw (lenenc_text_at-back v.name (lenenc_str v.value ++ rest) h.name, lenenc_text_at-back v.value rest h.value) refl

one_more : {Y : Type 0} (read_at : List ℕ → Reading Y) (room : ℕ) (bytes : List ℕ) → 1 ≤ length bytes
    → at_most_at read_at (suc room) bytes ≡
    (read_at bytes >>= λ first. at_most_at read_at room first.1 >>= before_others first.0)
unfolding at_most_at
one_more read_at room [] h = absurd (omega arith)
one_more read_at room (b ∷ bs) h = refl

-- elements that were written one after another are read again
pub elements-back : {Y : Type 0} (write : Y → List ℕ) (Is : Y → Type 0) (read_at : List ℕ →
    Reading Y) → EatsBytes read_at →
    ((y : Y) (rest : List ℕ) → Is y → read_at (write y ++ rest) ≡ Ok (y, rest)) →
    (all : List Y) (room : ℕ) → length (flat_map write all) ≤ room → AllByRecursion Is all →
    at_most_at read_at room (flat_map write all) ≡ Ok (all, [])
unfolding at_most_at
elements-back write Is read_at eats back [] zero fits h = refl
elements-back write Is read_at eats back [] (suc room) fits h = refl
elements-back write Is read_at eats back (y ∷ ys) zero fits h =
    let rest = flat_map write ys in
    let long = eats (write y ++ rest) (y, rest) (back y rest h.0) in
    absurd (omega arith)
elements-back write Is read_at eats back (y ∷ ys) (suc room) fits h =
    let rest = flat_map write ys in
    let long = eats (write y ++ rest) (y, rest) (back y rest h.0) in
    one_more read_at room (write y ++ rest) (omega arith)
    ∙ rw (back y rest h.0, elements-back write Is read_at eats back ys room (omega arith) h.1) refl

variables-back : (all : List Variable) (room : ℕ) → length (flat_map variable all) ≤ room →
    AllByRecursion IsVariable all → at_most_at variable_at room (flat_map variable all) ≡
    Ok (all, [])
variables-back = elements-back variable IsVariable variable_at variable_at-eats variable_at-back

same_type : (a b : SessionStateType) → Some a ≡ Some b → b ≡ a
same_type a b e = cc

read_by_own : (a type : SessionStateType) (c : Change) (rest : List ℕ) → Some a ≡ Some type →
    change_at a (change c ++ rest) ≡ Ok (c, rest) → change_at type (change c ++ rest) ≡ Ok (c, rest)
read_by_own a type c rest e h = ap (λ (t : SessionStateType). change_at t (change c ++ rest)) (same_type a type e) ∙ h

pub change_at-back : (type : SessionStateType) (c : Change) (rest : List ℕ) → IsReadBy type c rest →
    change_at type (change c ++ rest) ≡ Ok (c, rest)
unfolding change change_at
change_at-back type (IsTracked true) rest h =
    read_by_own SESSION_TRACK_STATE_CHANGE type (IsTracked true) rest h.0
    (rw (lenenc_text_at-back (tracking true) rest (lit< tt)) refl)
change_at-back type (IsTracked false) rest h =
    read_by_own SESSION_TRACK_STATE_CHANGE type (IsTracked false) rest h.0
    (rw (lenenc_text_at-back (tracking false) rest (lit< tt)) refl)
change_at-back type (Schema name) rest h =
    read_by_own SESSION_TRACK_SCHEMA type (Schema name) rest h.0 (rw (lenenc_text_at-back name rest h.1) refl)
change_at-back type (SystemVariables all) rest h =
    let bytes : flat_map variable all ++ rest ≡ flat_map variable all =
    ap (λ (r : List ℕ). flat_map variable all ++ r) h.1.1 ∙
    append-nil (flat_map variable all) in
    let fits : length (flat_map variable all) ≤ length (flat_map variable all) = omega arith in
    let whole : done (SystemVariables all, []) ≡ done (SystemVariables all, rest) =
    ap (λ (r : List ℕ). done (SystemVariables all, r)) (sym h.1.1) in
    read_by_own SESSION_TRACK_SYSTEM_VARIABLES type (SystemVariables all) rest h.0
    (rw (bytes, variables-back all (length (flat_map variable all)) fits h.1.0) whole)
change_at-back type (Gtids set) rest h =
    read_by_own SESSION_TRACK_GTIDS type (Gtids set) rest h.0 (rw (h.1, append-nil set) refl)
change_at-back type (TransactionCharacteristics statements) rest h =
    read_by_own SESSION_TRACK_TRANSACTION_CHARACTERISTICS type
    (TransactionCharacteristics statements) rest h.0
    (rw (lenenc_text_at-back statements rest h.1) refl)
change_at-back type (TransactionState letters) rest h =
    read_by_own SESSION_TRACK_TRANSACTION_STATE type (TransactionState letters) rest h.0
    (rw (lenenc_text_at-back letters rest h.1) refl)
change_at-back type (Unsupported bytes) rest h = absurd (let no = h.0 in cc)

-- a state takes the byte of its type at least
pub state_at-eats : EatsBytes state_at
unfolding state_at
state_at-eats bytes p h =
    let type = bind_ok (named_at session_state_named (fixed_number_at 1) bytes) _ p h in
    let text = bind_ok (lenenc_text_at type.0.1) _ p type.2 in
    let one = eaten_first 1 (named_at session_state_named (fixed_number_at 1)) bytes
    (named_at-sized (Some 1) session_state_named (fixed_number_at 1) (fixed_number_at-sized 1))
    type.0.0 type.0.1 type.1 in
    let less = ap (λ (b : List ℕ). length b) one in
    let two = text-shorter type.0.1 text.0 text.1 in
    let s : State = record { data_type = type.0.0; content = text.0.0 } in
    let end : (s, text.0.1) ≡ p = cc (text.2) in
    let left = ap (λ (q : State × List ℕ). length q.1) end in
    omega (arith, length-drop 1 bytes)

small_type : (type : SessionStateType) → session_state_number type < 256
small_type SESSION_TRACK_SYSTEM_VARIABLES = lit< tt
small_type SESSION_TRACK_SCHEMA = lit< tt
small_type SESSION_TRACK_STATE_CHANGE = lit< tt
small_type SESSION_TRACK_GTIDS = lit< tt
small_type SESSION_TRACK_TRANSACTION_CHARACTERISTICS = lit< tt
small_type SESSION_TRACK_TRANSACTION_STATE = lit< tt

session_state-back : (type : SessionStateType) (rest : List ℕ) →
    named_at session_state_named (fixed_number_at 1) (little_bytes 1 (session_state_number type) ++
    rest) ≡ Ok (type, rest)
session_state-back type rest =
    named_at-back session_state_named session_state_number (fixed_number_at 1) (little_bytes 1) type
    rest (session_state-names_back type)
    (fixed_number_at-back 1 (session_state_number type) rest (small_type type))

pub state_at-back : (s : State) (rest : List ℕ) → IsState s → state_at (state s ++ rest) ≡ Ok (s, rest)
unfolding state state_at
state_at-back s rest h =
    ap state_at (append_assoc (little_bytes 1 (session_state_number s.data_type)) (lenenc_str s.content) rest)
    ∙ rw (
      session_state-back s.data_type (lenenc_str s.content ++ rest),
      lenenc_text_at-back s.content rest h.content,
    ) refl

pub states_at-back : (all : List State) → AllByRecursion IsState all → states_at (flat_map state all) ≡ Ok (all, [])
states_at-back all h = elements-back state IsState state_at state_at-eats state_at-back all
    (length (flat_map state all)) (omega arith) h
