-- Streams that are cut off, and streams that are joined.
use Rattle.std.proofs.Common.{◌≡◌, ℕ, zero, suc, ◌+◌, ◌^◌, ◌<◌, ◌≤◌, ◌⊎◌, Bool, true, false, cond, List, [], ◌∷◌, ◌++◌}
use Rattle.std.proofs.Common.{length, Option, Some, None, Result, Ok, Err, refl, sym, ap, subst, ◌∙◌, arith, inl, inr}
use Rattle.std.proofs.Common.{take}
use Rattle.std.specs.Prelude.{bytes_eq, unwrap_or, is_some, ◌==◌, ◌||◌, nat_lt, not}
use Rattle.std.specs.List.{flat_map, list_any, range_with_len}
use Rattle.std.specs.Option.{option_or, ok_or}
use Rattle.std.proofs.lemmas.Bool.{cases_lt, ne_eqb, or_parts, ltb-true}
use Rattle.std.proofs.lemmas.List.{append-nil}
use Rattle.mysql_receive.specs.declared.fault.StreamFault.{StreamFault}
use Rattle.mysql_receive.specs.declared.fault.StreamFault.TheVariants.{WrongId, NotPrepared, NoTypes, NoRows, BadBulk}
use Rattle.mysql_receive.specs.declared.fault.StreamFault.TheVariants.{PiecesBeforeBulk, BadPlace}
use Rattle.mysql_receive.specs.Fields.{must, number_or}
use Rattle.mysql_wire.specs.Wire.{◌>>=◌}
use Rattle.mysql_receive.specs.Query.{Statement, place_count}
use Rattle.mysql_receive.proofs.Readable.{readable as is_readable}
use Rattle.mysql_receive.specs.Layout.{Command, command_of, Types, PlaceData, place_data_at, id_at, execute_head}
use Rattle.mysql_receive.specs.Layout.{bulk_head}
use Rattle.mysql_receive.specs.Layout as layout
use Rattle.mysql_receive.specs.InForce.{StatementState, after, after_command, state_after, nothing_yet, with_sent}
use Rattle.mysql_receive.specs.InForce.{more_data, execute_types, bulk_types, is_waiting}
use Rattle.mysql_receive.specs.Reading.{Set, CommandReadsAs, PayloadReadsAs, execute_at, bulk_rows, prepared_data}
use Rattle.mysql_receive.specs.Reading.{long_data_at, statement_alone_at, types_in_force, set_at}
use Rattle.mysql_values.specs.Laws.{TextIsDecided, OneReading, OnePlaces, SlicedIsLexed}
use Rattle.mysql_wire.specs.Laws.{FrontsSplit}
use Rattle.mysql_wire.specs.GoingOn.{ReaderLaws}
use Rattle.mysql_wire.specs.Stream.{Rest, IsSplit, IsRest, with_payloads, after_all, first_number}
use Rattle.mysql_wire.specs.Stream.Rest.{Empty as EmptyRest, TooLarge as TooLargeRest, OutOfSync as OutOfSyncRest}
use Rattle.mysql_wire.specs.Stream.Rest.{Open as OpenRest}
use Rattle.mysql_wire.specs.Stream.Numbering.{EachFromZero}
use Rattle.mysql_receive.specs.Laws.{FrontsReadOn, WholeStreamsJoin}
use Rattle.mysql_receive.specs.Audit.{Audit, Reads, nothing, next, Ends, faulty, all_read, Audits, end_by_rest}
use Rattle.mysql_receive.specs.Audit.{IsNoFault}
use Rattle.mysql_receive.specs.declared.audit.End.{End}
use Rattle.mysql_receive.specs.declared.audit.End.TheVariants as ends
use Rattle.mysql_receive.proofs.Auditing.{no_fault_by_rest, one_audit, audits_append, audits_whole}
use Rattle.mysql_receive.proofs.Binds.{bind_ok, bind_from, must_ok, must_from}
use Rattle.mysql_receive.proofs.Splits.{split_append}

-- ---- cut off

-- the first payloads read as the first reads
read_front : (c : Statement) (s : StatementState) (n : ℕ) (payloads : List (List ℕ))
    (reads : List (List Set)) (k : ℕ) → Reads c s n payloads reads →
    Reads c s n (take k payloads) (take k reads)
read_front c s n payloads reads zero r = nothing
read_front c s n payloads reads (suc k) nothing = nothing
read_front c s n payloads reads (suc k) (next {payload = p} {payloads = ps} {reads = rs} h others) =
    next h (read_front c (after c s p) (n + 1) ps rs k others)

pub fronts : FrontsSplit → TextIsDecided → OneReading → SlicedIsLexed → OnePlaces → FrontsReadOn
fronts cut decided once lexed one_places c limit payloads reads front back a readable within e r h =
    let split = h.0 in
    let f = cut limit EachFromZero payloads front back split within e h.1 in
    let k : ℕ = length split.payloads in
    let is : split.payloads ≡ take k payloads = f.2 in
    let each : Reads c nothing_yet 0 split.payloads (take k reads) =
    subst (λ (l : List (List ℕ)). Reads c nothing_yet 0 l (take k reads)) (sym is)
    (read_front c nothing_yet 0 payloads reads k r) in
    let ending : End = end_by_rest c (state_after c nothing_yet split.payloads)
    (0 + length (take k reads)) split.rest in
    let mine : Audit = record { sets = flat_map (λ sets. sets) (take k reads); ending = ending } in
    let same : a ≡ mine = one_audit c (is_readable decided once lexed one_places c.query readable)
    nothing_yet 0 split.payloads split.rest a mine h.2
    (audits_whole c nothing_yet 0 split.payloads split.rest (take k reads) each) in (
      k,
      f.1,
      ap (λ (x : Audit). x.sets) same,
      subst (λ (x : Audit). IsNoFault x.ending) (sym same)
          (no_fault_by_rest c (state_after c nothing_yet split.payloads) (0 + length (take k reads))
          split.rest f.0),
    )

-- ---- joined

-- t holds all that s holds, and no other data wait
record Extends (s t : StatementState) : Type 0 where
  prepared : s.prepared ≡ true → t.prepared ≡ true
  types : (ts : Types) → s.types ≡ Some ts → t.types ≡ Some ts
  long_data : t.long_data ≡ s.long_data

or_over : (b x y : Bool) → (x ≡ true → y ≡ true) → (b || x) ≡ true → (b || y) ≡ true
or_over true x y h e = refl
or_over false x y h e = h e

own_over : (own a b : Option Types) → ((ts : Types) → a ≡ Some ts → b ≡ Some ts) → (ts : Types) →
    option_or own a ≡ Some ts → option_or own b ≡ Some ts
own_over None a b h ts e = h ts e
own_over (Some us) a b h ts e = e

sent_over : (s t : StatementState) (r : Result PlaceData StreamFault) → Extends s t →
    Extends (with_sent s r) (with_sent t r)
sent_over s t (Err f) h = h
sent_over s t (Ok sent) h = record {
  prepared = h.prepared;
  types = h.types;
  long_data = ap (λ (f : ℕ → Option (List ℕ)). more_data f sent.place sent.bytes) h.long_data;
}

-- behind a command it still does
extends_command : (c : Statement) (s t : StatementState) (command : Command) (body : List ℕ) →
    Extends s t → Extends (after_command c s command body) (after_command c t command body)
extends_command c s t layout.Text body h = h
extends_command c s t layout.Prepare body h = record {
  prepared = or_over (bytes_eq body c.query.parsed) s.prepared t.prepared h.prepared;
  types = λ ts e. e;
  long_data = refl;
}
extends_command c s t layout.LongData body h = sent_over s t (place_data_at c body) h
extends_command c s t layout.Execute body h =
    record {
      prepared = h.prepared;
      types =
          own_over (execute_types c body) s.types t.types h.types;
      long_data = refl;
    }
extends_command c s t layout.Bulk body h =
    record {
      prepared = h.prepared;
      types =
          own_over (bulk_types c body) s.types t.types h.types;
      long_data = h.long_data;
    }
extends_command c s t layout.Reset body h = record { prepared = h.prepared; types = h.types; long_data = refl }
extends_command c s t layout.Close body h = record { prepared = λ e. e; types = λ ts e. e; long_data = refl }
extends_command c s t layout.Other body h = h

extends_once : (c : Statement) (s t : StatementState) (payload : List ℕ) → Extends s t →
    Extends (after c s payload) (after c t payload)
extends_once c s t [] h = h
extends_once c s t (b ∷ body) h = extends_command c s t (command_of b) body h

extends_after : (c : Statement) (s t : StatementState) (payloads : List (List ℕ)) → Extends s t →
    Extends (state_after c s payloads) (state_after c t payloads)
extends_after c s t [] h = h
extends_after c s t (payload ∷ payloads) h =
    extends_after c (after c s payload) (after c t payload) payloads (extends_once c s t payload h)

types_over : (c : Statement) (s t : StatementState) (own : Option Types) (types : Types) →
    Extends s t → types_in_force c s own ≡ Ok types → types_in_force c t own ≡ Ok types
types_over c s t own types h e =
    elim (place_count c.query == 0)
    as (λ b. cond b (Ok []) (ok_or (option_or own s.types) NoTypes) ≡ Ok types →
    cond b (Ok []) (ok_or (option_or own t.types) NoTypes) ≡
    Ok types) [ true ↦ λ x. x | false ↦ by_own own s.types refl ] e
  where
    by_own : (o : Option Types) (kept : Option Types) → s.types ≡ kept →
        ok_or (option_or o s.types) NoTypes ≡ Ok types → ok_or (option_or o t.types) NoTypes ≡
        Ok types
    by_own (Some ts) kept k x = x
    by_own None (Some ts) k x = ap (λ (o : Option Types). ok_or o NoTypes) (h.types ts k ∙ sym k) ∙ x
    by_own None None k x = let y : ok_or {T = Types} {E = StreamFault} None NoTypes ≡ Ok types =
        ap (λ (o : Option Types). ok_or o NoTypes) (sym k) ∙ x in absurd cc

set_over : (s t : StatementState) (head : layout.ExecuteHead) (types : Types) (set : Set) →
    t.long_data ≡ s.long_data → set_at s.long_data head.nulls 0 types head.cells ≡ Ok set →
    set_at t.long_data head.nulls 0 types head.cells ≡ Ok set
set_over s t head types set h e = ap (λ (f : ℕ → Option (List ℕ)). set_at f head.nulls 0 types head.cells) h ∙ e

execute_over : (c : Statement) (s t : StatementState) (body : List ℕ) (set : Set) → Extends s t →
    execute_at c s body ≡ Ok set → execute_at c t body ≡ Ok set
unfolding execute_at
execute_over c s t body set h e =
    let a = bind_ok (must NotPrepared s.prepared)
    (λ _. execute_head c body >>= λ head. types_in_force c s head.own >>= λ types. set_at
    s.long_data head.nulls 0 types head.cells) set e in
    let b = bind_ok (execute_head c body)
    (λ head. types_in_force c s head.own >>= λ types. set_at s.long_data head.nulls 0 types
    head.cells) set a.2 in
    let d = bind_ok (types_in_force c s b.0.own) (λ types. set_at s.long_data b.0.nulls 0 types b.0.cells) set b.2 in
    bind_from (must NotPrepared t.prepared)
    (λ _. execute_head c body >>= λ head. types_in_force c t head.own >>= λ types. set_at
    t.long_data head.nulls 0 types head.cells) 0 set
    (must_from NotPrepared t.prepared (h.prepared (must_ok NotPrepared s.prepared a.0 a.1)))
    (bind_from (execute_head c body)
    (λ head. types_in_force c t head.own >>= λ types. set_at t.long_data head.nulls 0 types
    head.cells) b.0 set b.1
    (bind_from (types_in_force c t b.0.own)
    (λ types. set_at t.long_data b.0.nulls 0 types b.0.cells) d.0 set
    (types_over c s t b.0.own d.0 h d.1)
    (set_over s t b.0 d.0 set h.long_data d.2)))

bulk_over : (c : Statement) (s t : StatementState) (body : List ℕ) (x : Types × List ℕ) →
    Extends s t → bulk_rows c s body ≡ Ok x → bulk_rows c t body ≡ Ok x
unfolding bulk_rows
bulk_over c s t body x h e =
    let after_head : StatementState → layout.BulkHead → Result (Types × List ℕ) StreamFault =
    λ st head. types_in_force c st head.own >>= λ types. must NoRows
    (nat_lt 0 (length head.rows)) >>= λ _. Ok (types, head.rows) in
    let after_alone : StatementState → Result (Types × List ℕ) StreamFault =
    λ st. must BadBulk (nat_lt 0 (place_count c.query)) >>= λ _. bulk_head c body >>= λ head.
    after_head st head in
    let after_prepared : StatementState → Result (Types × List ℕ) StreamFault =
    λ st. must PiecesBeforeBulk (not (is_waiting c st)) >>= λ _. after_alone st in
    let a = bind_ok (must NotPrepared s.prepared) (λ _. after_prepared s) x e in
    let b = bind_ok (must PiecesBeforeBulk (not (is_waiting c s))) (λ _. after_alone s) x a.2 in
    let d = bind_ok (must BadBulk (nat_lt 0 (place_count c.query)))
    (λ _. bulk_head c body >>= λ head. after_head s head) x b.2 in
    let g = bind_ok (bulk_head c body) (λ head. after_head s head) x d.2 in
    let k = bind_ok (types_in_force c s g.0.own)
    (λ types. must NoRows (nat_lt 0 (length g.0.rows)) >>= λ _. Ok (types, g.0.rows)) x g.2 in
    let waits : is_waiting c t ≡ is_waiting c s =
    ap (λ (f : ℕ → Option (List ℕ)). list_any (λ place. is_some (f place))
    (range_with_len 0 (place_count c.query))) h.long_data in
    bind_from (must NotPrepared t.prepared) (λ _. after_prepared t) 0 x
    (must_from NotPrepared t.prepared (h.prepared (must_ok NotPrepared s.prepared a.0 a.1)))
    (bind_from (must PiecesBeforeBulk (not (is_waiting c t))) (λ _. after_alone t) b.0 x
    (ap (λ (p : Bool). must PiecesBeforeBulk (not p)) waits ∙ b.1)
    (bind_from (must BadBulk (nat_lt 0 (place_count c.query)))
    (λ _. bulk_head c body >>= λ head. after_head t head) d.0 x d.1
    (bind_from (bulk_head c body) (λ head. after_head t head) g.0 x g.1
    (bind_from (types_in_force c t g.0.own)
    (λ types. must NoRows (nat_lt 0 (length g.0.rows)) >>= λ _. Ok (types, g.0.rows)) k.0 x
    (types_over c s t g.0.own k.0 h k.1) k.2))))

long_data_over : (c : Statement) (s t : StatementState) (body : List ℕ) (sets : List Set) →
    Extends s t → long_data_at c s body ≡ Ok sets → long_data_at c t body ≡ Ok sets
unfolding long_data_at prepared_data
long_data_over c s t body sets h e =
    let a = bind_ok (must NotPrepared s.prepared >>= λ _. place_data_at c body) (λ piece. Ok []) sets e in
    let b = bind_ok (must NotPrepared s.prepared) (λ _. place_data_at c body) a.0 a.1 in
    bind_from (must NotPrepared t.prepared >>= λ _. place_data_at c body) (λ piece. Ok []) a.0 sets
    (bind_from (must NotPrepared t.prepared) (λ _. place_data_at c body) 0 a.0
    (must_from NotPrepared t.prepared (h.prepared (must_ok NotPrepared s.prepared b.0 b.1)))
    b.2) a.2

alone_over : (c : Statement) (s t : StatementState) (body : List ℕ) (sets : List Set) →
    Extends s t → statement_alone_at c s body ≡ Ok sets → statement_alone_at c t body ≡ Ok sets
unfolding statement_alone_at
alone_over c s t body sets h e =
    let a = bind_ok (must NotPrepared s.prepared)
    (λ _. id_at c body >>= λ rest. must WrongId (length rest == 0) >>= λ _. Ok []) sets e in
    bind_from (must NotPrepared t.prepared)
    (λ _. id_at c body >>= λ rest. must WrongId (length rest == 0) >>= λ _. Ok []) 0 sets
    (must_from NotPrepared t.prepared (h.prepared (must_ok NotPrepared s.prepared a.0 a.1))) a.2

-- what reads where less is in force reads where more is
command_over : (c : Statement) (s t : StatementState) (command : Command) (body : List ℕ)
    (sets : List Set) → Extends s t → CommandReadsAs c s command body sets →
    CommandReadsAs c t command body sets
command_over c s t layout.Text body sets h r = r
command_over c s t layout.Prepare body sets h r = r
command_over c s t layout.LongData body sets h r = long_data_over c s t body sets h r
command_over c s t layout.Execute body sets h r = (r.0, execute_over c s t body r.0 h r.1, r.2)
command_over c s t layout.Bulk body sets h r =
    record {
      types = r.types;
      bytes = r.bytes;
      found =
          bulk_over c s t body (r.types, r.bytes) h r.found;
      rows = r.rows;
    }
command_over c s t layout.Reset body sets h r = alone_over c s t body sets h r
command_over c s t layout.Close body sets h r = alone_over c s t body sets h r
command_over c s t layout.Other body sets h r = r

payload_over : (c : Statement) (s t : StatementState) (payload : List ℕ) (sets : List Set) →
    Extends s t → PayloadReadsAs c s payload sets → PayloadReadsAs c t payload sets
payload_over c s t [] sets h r = r
payload_over c s t (b ∷ body) sets h r = command_over c s t (command_of b) body sets h r

read_over : (c : Statement) (s t : StatementState) (m n : ℕ) (payloads : List (List ℕ))
    (reads : List (List Set)) → Extends s t → n + length payloads < 2 ^ 64 →
    Reads c s m payloads reads → Reads c t n payloads reads
read_over c s t m n payloads reads h few nothing = nothing
read_over c s t m n payloads reads h few (next {payload = p} {payloads = ps} {sets = sets} {reads = rs} here others) =
    next (omega (arith, few), payload_over c s t p sets h here.1)
    (read_over c (after c s p) (after c t p) (m + 1) (n + 1) ps rs (extends_once c s t p h) (omega (arith, few)) others)

-- ---- where nothing waits, no place has long data

any_range : (p : ℕ → Bool) (a n k : ℕ) → list_any p (range_with_len a n) ≡ false → k < n → p (a + k) ≡ false
any_range p a zero k none lt = absurd (omega arith)
any_range p a (suc n) zero none lt = let h =
    or_parts (p a) (list_any p (range_with_len (a + 1) n)) none in ap p (omega arith) ∙ h.0
any_range p a (suc n) (suc k) none lt =
    let h = or_parts (p a) (list_any p (range_with_len (a + 1) n)) none in
    ap p (omega arith) ∙ any_range p (a + 1) n k h.1 (omega arith)

abbrev good : PlaceData → Result PlaceData StreamFault
good x = Ok x

ok_is : (x y : PlaceData) → good x ≡ good y → x ≡ y
ok_is x y h = cc

-- data are sent for a place of the query
place_known : (c : Statement) (body : List ℕ) (p : PlaceData) → place_data_at c body ≡ Ok p →
    p.place < place_count c.query
place_known c body p e =
    let a = bind_ok (id_at c body)
    (λ rest. number_or BadPlace 2 rest >>= λ place. must BadPlace
    (nat_lt place.0 (place_count c.query)) >>= λ _. Ok
    (record { place = place.0; bytes = place.1 })) p e in
    let b = bind_ok (number_or BadPlace 2 a.0)
    (λ place. must BadPlace (nat_lt place.0 (place_count c.query)) >>= λ _. Ok
    (record { place = place.0; bytes = place.1 })) p a.2 in
    let d = bind_ok (must BadPlace (nat_lt b.0.0 (place_count c.query)))
    (λ _. Ok (record { place = b.0.0; bytes = b.0.1 })) p b.2 in
    let lt : b.0.0 < place_count c.query =
    ltb-true b.0.0 (place_count c.query)
    (must_ok BadPlace (nat_lt b.0.0 (place_count c.query)) d.0 d.1) in
    let same : b.0.0 ≡ p.place =
    ap (λ (q : PlaceData). q.place) (ok_is (record { place = b.0.0; bytes = b.0.1 }) p d.2) in
    omega (arith, lt, same)

-- no data wait for a place that the query hasn't
abbrev NonePast : Statement → StatementState → Type 0
NonePast c s = (k : ℕ) → place_count c.query ≤ k → s.long_data k ≡ None

none_sent : (c : Statement) (s : StatementState) (body : List ℕ)
    (r : Result PlaceData StreamFault) → place_data_at c body ≡ r → NonePast c s →
    NonePast c (with_sent s r)
none_sent c s body (Err f) e none k past = none k past
none_sent c s body (Ok sent) e none k past =
    ap (λ x. cond x (Some (unwrap_or (s.long_data k) [] ++ sent.bytes)) (s.long_data k))
    (ne_eqb sent.place k (λ h. omega (arith, past, h, place_known c body sent e))) ∙ none k past

none_command : (c : Statement) (s : StatementState) (command : Command) (body : List ℕ) →
    NonePast c s → NonePast c (after_command c s command body)
none_command c s layout.Text body none = none
none_command c s layout.Prepare body none = λ k past. refl
none_command c s layout.LongData body none = none_sent c s body (place_data_at c body) refl none
none_command c s layout.Execute body none = λ k past. refl
none_command c s layout.Bulk body none = none
none_command c s layout.Reset body none = λ k past. refl
none_command c s layout.Close body none = λ k past. refl
none_command c s layout.Other body none = none

none_after : (c : Statement) (s : StatementState) (payloads : List (List ℕ)) → NonePast c s →
    NonePast c (state_after c s payloads)
none_after c s [] none = none
none_after c s ([] ∷ payloads) none = none_after c s payloads none
none_after c s ((b ∷ body) ∷ payloads) none =
    none_after c (after_command c s (command_of b) body) payloads
    (none_command c s (command_of b) body none)

is_none : (o : Option (List ℕ)) → is_some o ≡ false → o ≡ None
is_none None e = refl
is_none (Some x) e = absurd cc

nothing_waits : (c : Statement) (payloads : List (List ℕ)) →
    is_waiting c (state_after c nothing_yet payloads) ≡ false → (k : ℕ) →
    (state_after c nothing_yet payloads).long_data k ≡ None
nothing_waits c payloads none k = by_place (cases_lt k (place_count c.query))
  where
    by_place : ((k < place_count c.query) ⊎ (place_count c.query ≤ k)) →
        (state_after c nothing_yet payloads).long_data k ≡ None
    by_place (inl lt) =
        is_none ((state_after c nothing_yet payloads).long_data k)
        (ap (λ n. is_some ((state_after c nothing_yet payloads).long_data n)) (omega arith) ∙
        any_range (λ place. is_some ((state_after c nothing_yet payloads).long_data place)) 0
        (place_count c.query) k none lt)
    by_place (inr past) = none_after c nothing_yet payloads (λ k past. refl) k past

-- ---- streams that audit whole

whole_by_rest : (c : Statement) (s : StatementState) (n : ℕ) (rest : Rest) → ends.Whole ≡
    end_by_rest c s n rest → (is_waiting c s ≡ false) × (rest ≡ EmptyRest)
whole_by_rest c s n TooLargeRest e = absurd cc
whole_by_rest c s n OutOfSyncRest e = absurd cc
whole_by_rest c s n OpenRest e = absurd (by_waiting (is_waiting c s) e)
  where
    by_waiting : (b : Bool) → ends.Whole ≡ cond b ends.WaitingPieces ends.UnfinishedPacket → ⊥
    by_waiting true h = absurd cc
    by_waiting false h = absurd cc
whole_by_rest c s n EmptyRest e = (by_waiting (is_waiting c s) e, refl)
  where
    by_waiting : (b : Bool) → ends.Whole ≡ cond b ends.WaitingPieces ends.Whole → b ≡ false
    by_waiting true h = absurd cc
    by_waiting false h = refl

-- all of a whole stream's payloads read, and nothing waits
record WholeReads (c : Statement) (payloads : List (List ℕ)) (reads : List (List Set)) (rest : Rest) : Type 0 where
  each : Reads c nothing_yet 0 payloads reads
  waits : is_waiting c (state_after c nothing_yet payloads) ≡ false
  empty : rest ≡ EmptyRest

whole_reads : (c : Statement) (payloads : List (List ℕ)) (rest : Rest) (a : Audit)
    (h : Audits c nothing_yet 0 payloads rest a) → a.ending ≡ ends.Whole →
    WholeReads c payloads h.reads rest
whole_reads c payloads rest a h whole = by h.each.left h.each.cut h.ending
  where
    by : (left : List (List ℕ)) → payloads ≡ h.each.front ++ left →
        Ends c (state_after c nothing_yet h.each.front) (0 + length h.reads) rest a.ending left →
        WholeReads c payloads h.reads rest
    by left cut (faulty f k is) =
        absurd (let bad : ends.Fault (0 + length h.reads) f ≡ ends.Whole = sym is ∙ whole in cc)
    by left cut (all_read is) =
        let r = whole_by_rest c (state_after c nothing_yet h.each.front) (0 + length h.reads) rest (sym whole ∙ is) in
        let all : h.each.front ≡ payloads = sym (cut ∙ append-nil h.each.front) in
        record {
          each = subst (λ (l : List (List ℕ)). Reads c nothing_yet 0 l h.reads) all h.each.each;
          waits = ap (λ (l : List (List ℕ)). is_waiting c (state_after c nothing_yet l)) (sym all) ∙ r.0;
          empty = r.1;
        }

pub joins : ReaderLaws → WholeStreamsJoin
joins wire c limit xs ys front back a b is_front is_back audits_front audits_back few whole_a whole_b =
    let ps : List (List ℕ) = front.payloads in
    let qs : List (List ℕ) = back.payloads in
    let wa = whole_reads c ps front.rest a audits_front whole_a in
    let wb = whole_reads c qs back.rest b audits_back whole_b in
    let s : StatementState = state_after c nothing_yet ps in
    let extends : Extends nothing_yet s = record {
      prepared = λ e. absurd cc;
      types = λ ts e. absurd cc;
      long_data = λ i place. nothing_waits c ps wa.waits place i;
    } in
    let reads : Reads c s (0 + length ps) qs audits_back.reads =
    read_over c nothing_yet s 0 (0 + length ps) qs audits_back.reads extends (omega arith)
    wb.each in
    let waits : is_waiting c (state_after c s qs) ≡ false =
    ap (λ (f : ℕ → Option (List ℕ)). list_any (λ place. is_some (f place))
    (range_with_len 0 (place_count c.query)))
    (extends_after c nothing_yet s qs extends).long_data ∙ wb.waits in
    let last : end_by_rest c (state_after c s qs) ((0 + length ps) + length audits_back.reads) back.rest ≡ ends.Whole =
    ap (λ (r : Rest). end_by_rest c (state_after c s qs)
    ((0 + length ps) + length audits_back.reads) r) wb.empty ∙
    ap (λ (x : Bool). cond x ends.WaitingPieces ends.Whole) waits in
    let on : Audits c s (0 + length ps) qs back.rest
    (record { sets = flat_map (λ sets. sets) audits_back.reads; ending = ends.Whole }) =
    subst (λ (e : End). Audits c s (0 + length ps) qs back.rest
    (record { sets = flat_map (λ sets. sets) audits_back.reads; ending = e })) last
    (audits_whole c s (0 + length ps) qs back.rest audits_back.reads reads) in
    let both = audits_append c nothing_yet 0 ps qs back.rest audits_front.reads
    (record { sets = flat_map (λ sets. sets) audits_back.reads; ending = ends.Whole }) wa.each
    on in
    let left : front.rest_bytes ≡ [] =
    ((wire.rests limit (first_number (after_all ps EachFromZero))).1 front.rest_bytes).0
    (subst (λ (r : Rest). IsRest limit (first_number (after_all ps EachFromZero))
    front.rest_bytes r) wa.empty is_front.ends) in
    let split : IsSplit limit EachFromZero (front.rest_bytes ++ ys) back =
    subst (λ (l : List ℕ). IsSplit limit EachFromZero (l ++ ys) back) (sym left) is_back in (
      with_payloads ps back,
      split_append wire limit xs ys front back is_front split,
      subst (λ (l : List Set). Audits c nothing_yet 0 (ps ++ qs) back.rest (record { sets = l; ending = ends.Whole }))
          (ap (λ (l : List Set). l ++ flat_map (λ sets. sets) audits_back.reads)
          (sym audits_front.sets) ∙ ap (λ (l : List Set). a.sets ++ l) (sym audits_back.sets))
          both,
    )
