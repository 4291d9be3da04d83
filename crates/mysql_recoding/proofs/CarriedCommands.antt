-- The sets that a payload of bytes reads as: a content for each placeholder, and each one that a command can carry.
use Rattle.std.proofs.Common.{◌≡◌, ℕ, suc, ◌+◌, Bool, true, false, List, [], ◌∷◌, length, Option, Some, None, Result}
use Rattle.std.proofs.Common.{Ok, if◌then◌else◌, refl, sym, ap, subst, ◌∙◌, arith}
use Rattle.std.specs.Prelude.{◌==◌, nat_lt, not}
use Rattle.std.specs.List.{AllByRecursion}
use Rattle.std.specs.Option.{ok_or, option_or}
use Rattle.std.proofs.lemmas.Bool.{eqb-true}
use Rattle.mysql_wire.specs.Bytes.{AreBytes}
use Rattle.mysql_wire.specs.Wire.{◌>>=◌}
use Rattle.mysql_values.specs.Content.{Content}
use Rattle.mysql_values.specs.Content.TheVariants as content
use Rattle.mysql_values.specs.Queries.{pieces_of, places_of}
use Rattle.mysql_values.specs.Tokens.{HasTokens}
use Rattle.mysql_receive.specs.declared.fault.StreamFault.{StreamFault}
use Rattle.mysql_receive.specs.declared.fault.StreamFault.TheVariants.{BadBulk, BadExecute, NoRows, NoTypes}
use Rattle.mysql_receive.specs.declared.fault.StreamFault.TheVariants.{NotPrepared, PiecesBeforeBulk, WrongId}
use Rattle.mysql_receive.specs.declared.param_type.ParamType.{ParamType}
use Rattle.mysql_receive.specs.Fields.{must}
use Rattle.mysql_receive.specs.Query.{Statement, place_count}
use Rattle.mysql_receive.specs.Layout.{BulkHead, Command, Types, bulk_head, command_of, execute_head, id_at}
use Rattle.mysql_receive.specs.Layout as layout
use Rattle.mysql_receive.specs.InForce.{StatementState, is_waiting}
use Rattle.mysql_receive.specs.Reading.{BulkReadsAs, CommandReadsAs, PayloadReadsAs, RowsAt, Set, TextReadsAs}
use Rattle.mysql_receive.specs.Reading.{bulk_rows, column_at, columns_at, execute_at, long_data_at, parameter_at}
use Rattle.mysql_receive.specs.Reading.{prepared_data, row_at, set_at, statement_alone_at, types_in_force}
use Rattle.mysql_recoding.specs.Laws.{IsCarried}
use Rattle.mysql_recoding.proofs.ByteLists.{bytes_tail}
use Rattle.mysql_recoding.proofs.CarriedCells.{Leaves, bind_ok, column_carried, content_carried, leaves, ok_same, read}
use Rattle.mysql_recoding.proofs.CarriedCells.{some_is}
use Rattle.mysql_recoding.proofs.CarriedTexts.{pieces_length, text_carried}
use Rattle.mysql_recoding.proofs.StatesInForce.{HasCount, IsInForce, OwnCount, bulk_is_head, execute_is_head}

-- so many contents that a command can carry
abbrev pub Fills : ℕ → Set → Type 0
Fills n set = (length set ≡ n) × AllByRecursion IsCarried set

no_sets : (n : ℕ) (sets : List Set) → read {F = StreamFault} [] ≡ read sets → AllByRecursion (Fills n) sets
no_sets n sets e = subst (AllByRecursion (Fills n)) (ok_same {F = StreamFault} [] sets e) tt

-- ---- an execute

parameter_carried : (piece : Option (List ℕ)) (null : Bool) (t : ParamType) (bytes : List ℕ)
    (p : Content × List ℕ) → ((data_bytes : List ℕ) → piece ≡ Some data_bytes → AreBytes data_bytes)
    → AreBytes bytes → parameter_at piece null t bytes ≡ Ok p → Leaves IsCarried p
parameter_carried (Some data_bytes) null t bytes p held h e =
    leaves {F = StreamFault} IsCarried (content.Bytes data_bytes) bytes p (held data_bytes refl) h e
parameter_carried None true t bytes p held h e = leaves {F = StreamFault} IsCarried content.Null bytes p tt h e
parameter_carried None false t bytes p held h e = content_carried BadExecute t bytes p h e

set_carried : (pieces : ℕ → Option (List ℕ)) (nulls : List ℕ) (place : ℕ) (types : Types)
    (bytes : List ℕ) (set : Set) →
    ((place : ℕ) (data_bytes : List ℕ) → pieces place ≡ Some data_bytes → AreBytes data_bytes)
    → AreBytes bytes → set_at pieces nulls place types bytes ≡ Ok set → Fills (length types) set
unfolding set_at
set_carried pieces nulls place [] [] set held h e = subst (Fills 0) (ok_same {F = StreamFault} [] set e) (refl, tt)
set_carried pieces nulls place [] (b ∷ bytes) set held h e = absurd cc
set_carried pieces nulls place (t ∷ types) bytes set held h e =
    let a = bind_ok (parameter_at (pieces place) _ t bytes)
    (λ first. set_at pieces nulls (place + 1) types first.1 >>= λ others. Ok (first.0 ∷ others))
    set e in
    let b = bind_ok (set_at pieces nulls (place + 1) types a.0.1) (λ others. Ok (a.0.0 ∷ others)) set a.2 in
    let first = parameter_carried (pieces place) _ t bytes a.0 (held place) h a.1 in
    let others = set_carried pieces nulls (place + 1) types a.0.1 b.0 held first.1 b.1 in
    subst (Fills (length (t ∷ types))) (ok_same {F = StreamFault} (a.0.0 ∷ b.0) set b.2)
    (ap (λ n. suc n) others.0, (first.0, others.1))

-- the types that count are as many as the placeholders
types_counted : (c : Statement) (s : StatementState) (own : Option Types) (types : Types) →
    OwnCount (place_count c.query) own → IsInForce c s → types_in_force c s own ≡ Ok types →
    HasCount (place_count c.query) types
types_counted c s own types counts is e = by (place_count c.query == 0) refl e
  where
    either : (o : Option Types) → OwnCount (place_count c.query) o → option_or o s.types ≡
        Some types → HasCount (place_count c.query) types
    either (Some x) k f = k types f
    either None k f = is.types types f

    by : (none : Bool) → (place_count c.query == 0) ≡ none →
        (if none then Ok [] else ok_or (option_or own s.types) NoTypes) ≡ Ok types →
        HasCount (place_count c.query) types
    by true zero_places f = subst (HasCount (place_count c.query))
        (ok_same {F = StreamFault} [] types f) (sym (eqb-true (place_count c.query) 0 zero_places))
    by false some_places f = either own counts (some_is (option_or own s.types) NoTypes types f)

execute_carried : (c : Statement) (s : StatementState) (body : List ℕ) (set : Set) → IsInForce c s →
    AreBytes body → execute_at c s body ≡ Ok set → Fills (place_count c.query) set
unfolding execute_at
execute_carried c s body set is h e =
    let a = bind_ok (must NotPrepared s.prepared)
    (λ _. execute_head c body >>= λ head. types_in_force c s head.own >>= λ types. set_at
    s.long_data head.nulls 0 types head.cells) set e in
    let b = bind_ok (execute_head c body)
    (λ head. types_in_force c s head.own >>= λ types. set_at s.long_data head.nulls 0 types
    head.cells) set a.2 in
    let d = bind_ok (types_in_force c s b.0.own) (λ types. set_at s.long_data b.0.nulls 0 types b.0.cells) set b.2 in
    let head = execute_is_head c body b.0 h b.1 in
    let carried = set_carried s.long_data b.0.nulls 0 d.0 b.0.cells set is.long_data head.rest_bytes d.2 in
    (carried.0 ∙ types_counted c s b.0.own d.0 head.own_count is d.1, carried.1)

-- ---- a bulk

columns_carried : (types : Types) (bytes : List ℕ) (p : Set × List ℕ) → AreBytes bytes →
    columns_at types bytes ≡ Ok p → Leaves (Fills (length types)) p
unfolding columns_at
columns_carried [] bytes p h e = leaves {F = StreamFault} (Fills 0) [] bytes p (refl, tt) h e
columns_carried (t ∷ types) bytes p h e =
    let a = bind_ok (column_at t bytes)
    (λ first. columns_at types first.1 >>= λ others. Ok (first.0 ∷ others.0, others.1)) p e in
    let b = bind_ok (columns_at types a.0.1) (λ others. Ok (a.0.0 ∷ others.0, others.1)) p a.2 in
    let first = column_carried t bytes a.0 h a.1 in
    let others = columns_carried types a.0.1 b.0 first.1 b.1 in
    leaves {F = StreamFault} (Fills (length (t ∷ types))) (a.0.0 ∷
    b.0.0) b.0.1 p (ap (λ n. suc n) others.0.0, (first.0, others.0.1)) others.1 b.2

row_carried : (types : Types) (bytes : List ℕ) (p : Set × List ℕ) → AreBytes bytes →
    row_at types bytes ≡ Ok p → Leaves (Fills (length types)) p
row_carried [] bytes p h e = absurd cc
row_carried (t ∷ types) bytes p h e = columns_carried (t ∷ types) bytes p h e

rows_carried : (types : Types) (bytes : List ℕ) (sets : List Set) (left : List ℕ) → AreBytes bytes →
    RowsAt types bytes sets left → AllByRecursion (Fills (length types)) sets
rows_carried types bytes [] left h rows = tt
rows_carried types bytes (set ∷ sets) left h rows =
    let first = row_carried types bytes (set, rows.0) h rows.1 in
    (first.0, rows_carried types rows.0 sets left first.1 rows.2)

-- what stands before the rows says a type for each placeholder, and the rows are bytes
bulk_leaves : (c : Statement) (s : StatementState) (body : List ℕ) (p : Types × List ℕ) →
    IsInForce c s → AreBytes body → bulk_rows c s body ≡ Ok p →
    Leaves (HasCount (place_count c.query)) p
unfolding bulk_rows
bulk_leaves c s body p is h e =
    let a = bind_ok (must NotPrepared s.prepared)
    (λ _. must PiecesBeforeBulk (not (is_waiting c s)) >>= λ _. must BadBulk
    (nat_lt 0 (place_count c.query)) >>= λ _. headed) p e in
    let b = bind_ok (must PiecesBeforeBulk (not (is_waiting c s)))
    (λ _. must BadBulk (nat_lt 0 (place_count c.query)) >>= λ _. headed) p a.2 in
    let d = bind_ok (must BadBulk (nat_lt 0 (place_count c.query))) (λ _. headed) p b.2 in
    let g = bind_ok (bulk_head c body) (λ head. after_head head) p d.2 in
    let k = bind_ok (types_in_force c s g.0.own)
    (λ types. must NoRows (nat_lt 0 (length g.0.rows)) >>= λ _. Ok (types, g.0.rows)) p g.2 in
    let m = bind_ok (must NoRows (nat_lt 0 (length g.0.rows))) (λ _. Ok (k.0, g.0.rows)) p k.2 in
    let head = bulk_is_head c body g.0 h g.1 in
    leaves {F = StreamFault} (HasCount (place_count c.query)) k.0 g.0.rows p
    (types_counted c s g.0.own k.0 head.own_count is k.1) head.rest_bytes m.2
  where
    after_head : BulkHead → Result (Types × List ℕ) StreamFault
    after_head head = types_in_force c s head.own >>= λ types. must NoRows
        (nat_lt 0 (length head.rows)) >>= λ _. Ok (types, head.rows)

    headed : Result (Types × List ℕ) StreamFault
    headed = bulk_head c body >>= λ head. after_head head

bulk_carried : (c : Statement) (s : StatementState) (body : List ℕ) (sets : List Set) →
    IsInForce c s → AreBytes body → BulkReadsAs c s body sets →
    AllByRecursion (Fills (place_count c.query)) sets
bulk_carried c s body sets is h reads =
    let before = bulk_leaves c s body (reads.types, reads.bytes) is h reads.found in
    subst (λ (n : ℕ). AllByRecursion (Fills n) sets) before.0
    (rows_carried reads.types reads.bytes sets [] before.1 reads.rows)

-- ---- commands without sets

data_without_sets : (c : Statement) (s : StatementState) (body : List ℕ) (sets : List Set) →
    long_data_at c s body ≡ Ok sets → AllByRecursion (Fills (place_count c.query)) sets
unfolding long_data_at
data_without_sets c s body sets e =
    no_sets (place_count c.query) sets (bind_ok (prepared_data c s body) (λ piece. Ok []) sets e).2

alone_without_sets : (c : Statement) (s : StatementState) (body : List ℕ) (sets : List Set) →
    statement_alone_at c s body ≡ Ok sets → AllByRecursion (Fills (place_count c.query)) sets
unfolding statement_alone_at
alone_without_sets c s body sets e =
    let a = bind_ok (must NotPrepared s.prepared)
    (λ _. id_at c body >>= λ rest. must WrongId (length rest == 0) >>= λ _. Ok []) sets e in
    let b = bind_ok (id_at c body) (λ rest. must WrongId (length rest == 0) >>= λ _. Ok []) sets a.2 in
    no_sets (place_count c.query) sets (bind_ok (must WrongId (length b.0 == 0)) (λ _. Ok []) sets b.2).2

-- ---- a text

-- the placeholders are as many by any tokens of the query
abbrev pub CountsPlaces : Statement → Type 0
CountsPlaces c = (tokens : List (List ℕ)) → HasTokens c.query.sql.mode c.query.sql.text tokens →
    length (places_of c.query.sql tokens) ≡ place_count c.query

contents_carried : (c : Statement) (body : List ℕ) (contents : Set) → CountsPlaces c →
    AreBytes body → TextReadsAs c.query.sql body contents → Fills (place_count c.query) contents
contents_carried c body contents counts h reads =
    let slices = reads.0 in
    let carried = text_carried c.query.sql.mode c.query.sql.spelling (pieces_of slices.tokens)
    contents body h slices.alternates in
    let pieces = pieces_length c.query.sql slices.tokens in
    let places = counts slices.tokens slices.has in
    (omega (arith, carried.0, pieces, places), carried.1)

-- ---- payloads

command_carried : (c : Statement) (s : StatementState) (k : Command) (body : List ℕ)
    (sets : List Set) → CountsPlaces c → IsInForce c s → AreBytes body →
    CommandReadsAs c s k body sets → AllByRecursion (Fills (place_count c.query)) sets
command_carried c s layout.Text body sets counts is h reads =
    subst (AllByRecursion (Fills (place_count c.query))) (sym reads.1.2)
    (contents_carried c body reads.1.0 counts h reads.1.1, tt)
command_carried c s layout.Prepare body sets counts is h reads =
    subst (AllByRecursion (Fills (place_count c.query))) (sym reads.2) tt
command_carried c s layout.LongData body sets counts is h reads = data_without_sets c s body sets reads
command_carried c s layout.Execute body sets counts is h reads =
    subst (AllByRecursion (Fills (place_count c.query))) (sym reads.2)
    (execute_carried c s body reads.0 is h reads.1, tt)
command_carried c s layout.Bulk body sets counts is h reads = bulk_carried c s body sets is h reads
command_carried c s layout.Reset body sets counts is h reads = alone_without_sets c s body sets reads
command_carried c s layout.Close body sets counts is h reads = alone_without_sets c s body sets reads
command_carried c s layout.Other body sets counts is h reads = elim reads [ ]

pub payload_carried : (c : Statement) (s : StatementState) (payload : List ℕ) (sets : List Set) →
    CountsPlaces c → IsInForce c s → AreBytes payload → PayloadReadsAs c s payload sets →
    AllByRecursion (Fills (place_count c.query)) sets
payload_carried c s [] sets counts is h reads = elim reads [ ]
payload_carried c s (b ∷ body) sets counts is h reads =
    command_carried c s (command_of b) body sets counts is (bytes_tail b body h) reads
