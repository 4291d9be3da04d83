-- The byte strings of a set as long data, and the size by which it is refused.
use Rattle.std.proofs.Common.{◌≡◌, ℕ, ◌+◌, ◌/◌, ◌<◌, ◌≤◌, ◌==◌, nat_lt, Bool, true, false, List, [], ◌∷◌, ◌++◌, length}
use Rattle.std.proofs.Common.{map, take, drop, get_or, Option, Some, None, refl, sym, ◌∙◌, ap, inl, inr, arith}
use Rattle.std.proofs.Common.{append_assoc, if◌then◌else◌}
use Rattle.std.specs.Prelude.{IfSome, SomeIff, is_none}
use Rattle.std.proofs.lemmas.Bool.{cases_lt, eqb-false, le-ltb, lt-ltb}
use Rattle.std.proofs.lemmas.List.{append-nil, drop_all, take-append-le, take_all}
use Rattle.byteorder.specs.Endian.{little_bytes}
use Rattle.mysql_wire.specs.Framing.{chunk, chunks, framing}
use Rattle.mysql_wire.specs.Stream.{framings}
use Rattle.mysql_wire.specs.Stream.Numbering.{EachFromZero}
use Rattle.mysql_values.specs.Value.{Value}
use Rattle.mysql_stmt.specs.Executions.{execute_command, needs_long_data, whole_size}
use Rattle.mysql_stmt.specs.Statements.{ExecutionsHaveSizes}
use Rattle.mysql_command_rules.specs.Commands.{piece_of, pieces_from}
use Rattle.mysql_send.specs.Executions.{execution_payloads, whole_execution}
use Rattle.mysql_send.proofs.Lists.{framings-append, front_length, next_set}

-- the pieces of the values before a place were sent: those from there on are left
pub record PiecesSent {T : Type 0} (id : ℕ) (lent : T → Value) (values : List T) (old out : List ℕ)
    (i : ℕ) : Type 0 where
  pub bytes : out ++ framings (pieces_from id i (map lent (drop i values))) EachFromZero ≡ old ++
      framings (pieces_from id 0 (map lent values)) EachFromZero
  pub kept : take (length old) out ≡ old

-- the piece at a place comes before those behind it
from_piece : (id i : ℕ) (value : Value) (values : List Value) →
    framings (pieces_from id i (value ∷ values)) EachFromZero ≡
    framings (piece_of id i value) EachFromZero ++
    framings (pieces_from id (i + 1) values) EachFromZero
unfolding pieces_from
from_piece id i value values = framings-append (piece_of id i value) (pieces_from id (i + 1) values)

-- one more was sent
pub next_piece : (id : ℕ) {T : Type 0} (lent : T → Value) (values : List T) (old out new : List ℕ)
    (i place : ℕ) (value : T) → PiecesSent id lent values old out i → i < length values → value ≡
    get_or values i value → place ≡ i
    → new ≡ out ++ framings (piece_of id place (lent value)) EachFromZero → PiecesSent id lent values old new (i + 1)
next_piece id lent values old out new i place value s inside is at put =
    let later : List Value = map lent (drop (i + 1) values) in
    let here : new ≡ out ++ framings (piece_of id i (lent value)) EachFromZero = put ∙
    ap (λ n. out ++ framings (piece_of id n (lent value)) EachFromZero) at in
    record {
      bytes = ap (λ l. l ++ framings (pieces_from id (i + 1) later) EachFromZero) here
          ∙ append_assoc out (framings (piece_of id i (lent value)) EachFromZero)
          (framings (pieces_from id (i + 1) later) EachFromZero)
          ∙ ap (λ l. out ++ l) (sym (from_piece id i (lent value) later))
          ∙ ap (λ l. out ++ framings (pieces_from id i (map lent l)) EachFromZero)
          (sym (next_set values i value inside is))
          ∙ s.bytes;
      kept = ap (λ l. take (length old) l) here ∙
          take-append-le (length old) out (framings (piece_of id i (lent value)) EachFromZero)
          (front_length old out s.kept) ∙ s.kept;
    }

-- the piece of a value that is lent is that of the value
pub same_piece : (id place : ℕ) (out new : List ℕ) (value other : Value) → value ≡ other → new ≡
    out ++ framings (piece_of id place value) EachFromZero → new ≡ out ++
    framings (piece_of id place other) EachFromZero
same_piece id place out new value other same put = put ∙
    ap (λ (v : Value). out ++ framings (piece_of id place v) EachFromZero) same

-- behind the last value none is left
no_more : (id i : ℕ) → framings (pieces_from id i []) EachFromZero ≡ []
unfolding pieces_from
no_more id i = refl

-- all were sent
pub all_pieces : (id : ℕ) {T : Type 0} (lent : T → Value) (values : List T) (old out : List ℕ)
    (i : ℕ) → PiecesSent id lent values old out i → length values ≤ i → out ≡ old ++
    framings (pieces_from id 0 (map lent values)) EachFromZero
all_pieces id lent values old out i s passed =
    sym (append-nil out) ∙ ap (λ l. out ++ l) (sym (no_more id i)) ∙
    ap (λ l. out ++ framings (pieces_from id i (map lent l)) EachFromZero)
    (sym (drop_all i values passed)) ∙ s.bytes

-- an execution behind its pieces
pub sent_apart : (id : ℕ) (values : List Value) (old mid new : List ℕ) → true ≡
    needs_long_data values → mid ≡ old ++ framings (pieces_from id 0 values) EachFromZero → new ≡
    mid ++ framing (execute_command id values (needs_long_data values)) 0
    → new ≡ old ++ framings (execution_payloads id values) EachFromZero
sent_apart id values old mid new apart pieces put =
    let last : List ℕ = execute_command id values (needs_long_data values) in
    put ∙ ap (λ l. l ++ framing last 0) pieces ∙
    append_assoc old (framings (pieces_from id 0 values) EachFromZero) (framing last 0)
    ∙ ap (λ l. old ++ (framings (pieces_from id 0 values) EachFromZero ++ l)) (sym (append-nil (framing last 0)))
    ∙ ap (λ l. old ++ l) (sym (framings-append (pieces_from id 0 values) (last ∷ [])))
    ∙ ap (λ b. old ++ framings ((if b then pieces_from id 0 values else []) ++ last ∷ []) EachFromZero) apart

-- an execution that has none before it
pub sent_whole : (id : ℕ) (values : List Value) (old mid new : List ℕ) → false ≡
    needs_long_data values → mid ≡ old → new ≡ mid ++
    framing (execute_command id values (needs_long_data values)) 0
    → new ≡ old ++ framings (execution_payloads id values) EachFromZero
sent_whole id values old mid new whole same put =
    let last : List ℕ = execute_command id values (needs_long_data values) in
    put ∙ ap (λ l. l ++ framing last 0) same ∙ ap (λ l. old ++ l) (sym (append-nil (framing last 0)))
    ∙ ap (λ b. old ++ framings ((if b then pieces_from id 0 values else []) ++ last ∷ []) EachFromZero) whole

-- values that are not empty are some
pub not_empty : {T : Type 0} (values : List T) (empty : Bool) → empty ≡ (length values == 0) →
    empty ≡ false → 0 < length values
not_empty [] empty is some = absurd (eqb-false 0 0 (sym is ∙ some) refl)
not_empty (value ∷ values) empty is some = omega arith

-- by its size an execution is sent whole or apart
pub long_by_size : ExecutionsHaveSizes →
    (id size : ℕ) {T : Type 0} (lent : T → Value) (values : List T) →
    length (whole_execution id (map lent values)) ≡ size → needs_long_data (map lent values) ≡
    nat_lt 16777215 size
long_by_size sizes id size lent [] is = ap (λ n. nat_lt 16777215 n) (sym (sizes.0 id) ∙ is)
long_by_size sizes id size lent (value ∷ values) is =
    ap (λ n. nat_lt 16777215 n) (sym (sizes.1 id (lent value) (map lent values)) ∙ is)

-- a payload that one chunk holds
pub short_framing : (payload : List ℕ) → length payload < 16777215 →
    little_bytes 3 (length payload) ++ (0 ∷ payload) ≡ framing payload 0
unfolding framing chunks
short_framing payload short =
    let none : length payload / 16777215 ≡ 0 = omega (arith, short) in
    let whole : take 16777215 payload ≡ payload = take_all 16777215 payload (omega (arith, short)) in
    sym (ap (λ n. chunks payload 0 (n + 1)) none ∙ append-nil (chunk 0 (take 16777215 payload)) ∙
    ap (λ l. chunk 0 l) whole)

-- an execution that one packet holds, behind its header
pub sent_short : ExecutionsHaveSizes →
    (id size : ℕ) {T : Type 0} (lent : T → Value) (values : List T) (old mid new header : List ℕ) →
    length (whole_execution id (map lent values)) ≡ size → size < 16777215
    → header ≡ little_bytes 3 size ++ 0 ∷ [] → mid ≡ old ++ header → new ≡ mid ++
    whole_execution id (map lent values) → new ≡ old ++
    framings (execution_payloads id (map lent values)) EachFromZero
sent_short sizes id size lent values old mid new header is short made put behind =
    let whole : List ℕ = whole_execution id (map lent values) in
    let none : needs_long_data (map lent values) ≡ false =
    long_by_size sizes id size lent values is ∙ le-ltb 16777215 size (omega (arith, short)) in
    sent_whole id (map lent values) old old new (sym none) refl
    (behind ∙ ap (λ l. l ++ whole) (put ∙ ap (λ l. old ++ l) (made ∙ ap (λ n. little_bytes 3 n ++ 0 ∷ []) (sym is)))
    ∙ append_assoc old (little_bytes 3 (length whole) ++ 0 ∷ []) whole
    ∙ ap (λ l. old ++ l) (short_framing whole (omega (arith, is, short)))
    ∙ ap (λ b. old ++ framing (execute_command id (map lent values) b) 0) (sym none))

-- the size of an execution that has values, where it is within the room
pub size_of_some : ExecutionsHaveSizes →
    {T : Type 0} (lent : T → Value) (values : List T) (room : ℕ) → 0 < length values →
    (within : Option ℕ) → SomeIff within (whole_size (map lent values) ≤ room)
    (whole_size (map lent values))
    → IfSome within (λ size. (id : ℕ) → length (whole_execution id (map lent values)) ≡ size)
size_of_some sizes lent [] room some within is = absurd (omega (arith, some))
size_of_some sizes lent (value ∷ values) room some None is = tt
size_of_some sizes lent (value ∷ values) room some (Some size) is =
    λ id. sizes.1 id (lent value) (map lent values) ∙ sym is.1

-- whether it is too long
exceeds : (size room : ℕ) (within : Option ℕ) → SomeIff within (size ≤ room) size → nat_lt room size ≡ is_none within
exceeds size room None is = elim (cases_lt room size) [ inl more ↦ lt-ltb room size more | inr fits ↦ absurd (is fits) ]
exceeds size room (Some found) is = le-ltb room size is.0

pub too_long : ExecutionsHaveSizes → {T : Type 0} (lent : T → Value) (values : List T) (room : ℕ) →
    0 < length values → (within : Option ℕ) →
    SomeIff within (whole_size (map lent values) ≤ room) (whole_size (map lent values))
    → (id : ℕ) → nat_lt room (length (whole_execution id (map lent values))) ≡ is_none within
too_long sizes lent [] room some within is id = absurd (omega (arith, some))
too_long sizes lent (value ∷ values) room some within is id =
    ap (λ n. nat_lt room n) (sizes.1 id (lent value) (map lent values)) ∙
    exceeds (whole_size (map lent (value ∷ values))) room within is
