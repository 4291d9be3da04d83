-- The requests of sets by bulk, part by part, and behind their prepare.
use Rattle.std.proofs.Common.{◌≡◌, ◌≢◌, ℕ, ◌+◌, ◌-◌, ◌≤◌, ◌==◌, inl, inr, Bool, true, false, List, [], ◌∷◌, ◌++◌}
use Rattle.std.proofs.Common.{length, map, take, drop, Option, Some, None, Ok, refl, sym, ◌∙◌, ap, subst, arith}
use Rattle.std.proofs.Common.{append_assoc, Bor}
use Rattle.std.specs.Prelude.{sum_by}
use Rattle.std.specs.List.{range_with_len}
use Rattle.std.specs.Option.{option_or}
use Rattle.std.proofs.lemmas.Bool.{ne_eqb}
use Rattle.std.proofs.lemmas.List.{append-nil, drop-map, drop-take, take-append-drop, take-append-le, take-map}
use Rattle.std.proofs.lemmas.List.{take-take}
use Rattle.std.proofs.lemmas.List.Sums.{sum_by-cons}
use Rattle.std.proofs.lemmas.Simd.{map-map}
use Rattle.mysql_wire.specs.Framing.{framing}
use Rattle.mysql_wire.specs.Stream.{framings}
use Rattle.mysql_wire.specs.Stream.Numbering.{EachFromZero}
use Rattle.mysql_values.specs.Sql.{Sql}
use Rattle.mysql_values.specs.declared.params.Params.{Params}
use Rattle.mysql_values.specs.declared.params.SetError.{SetError}
use Rattle.mysql_values.specs.Laws.{OneTokens}
use Rattle.mysql_values.specs.Parsed.{Parsed, names_of}
use Rattle.mysql_values.specs.Queries.{places_of}
use Rattle.mysql_values.specs.Value.{Value}
use Rattle.mysql_bulk_builder.specs.Bulk.{bulk_command, type_of_value}
use Rattle.mysql_bulk_builder.specs.declared.search.BulkPart.{BulkPart}
use Rattle.mysql_bulk_builder.specs.Cut.{Row, rows_of}
use Rattle.mysql_bulk_builder.specs.RowLists.{row_in, rows_in}
use Rattle.mysql_bulk_builder.specs.TypedCut.{Part, Typed, Typing, Untyped, placed}
use Rattle.mysql_bulk_builder.specs.TypedRequests.{typing_of, view_part, view_parts}
use Rattle.mysql_bulk_builder.specs.ValueTypes.{first_in_column, first_values}
use Rattle.mysql_receive.specs.Query.{statement_of}
use Rattle.mysql_command_rules.specs.declared.refusal.Refusal.{Refusal}
use Rattle.mysql_command_rules.specs.declared.refusal.Refusal.TheVariants as refusals
use Rattle.mysql_command_rules.specs.declared.road.Road.TheVariants.{Bulk}
use Rattle.mysql_command_rules.specs.Commands.{bulk_request, prepare_command}
use Rattle.mysql_command_rules.specs.Sets.{Given, given_up_to, values_of}
use Rattle.mysql_command_rules.specs.Sent.{as_requests, payloads_of, prepare_of, stream_of}
use Rattle.mysql_command_rules.specs.Cause.{bulk_cause, cause_if, first_of_sets, prepare_cause, query_cause, set_cause}
use Rattle.mysql_command_rules.specs.Sending.{RefusesGiven}
use Rattle.mysql_command_rules.specs.Reading.{SentReadable}
use Rattle.mysql_send.specs.Executions.{limits_of}
use Rattle.mysql_send.specs.Statement.{AppendsPrepare, IsStatement, RefusesPrepare}
use Rattle.mysql_send.specs.BulkSets.{RefusesSets}
use Rattle.mysql_send.proofs.Lists.{first_is}
use Rattle.mysql_send.specs.BulkSets.{AppendsRequests, GivesRows, RefusesAll, RefusesRows, no_command, request_flags}
use Rattle.mysql_send.specs.BulkSets.{request_types, requests_from, types_by}

-- ---- one part

-- the types by the first values of columns
pub types_are : (typed : Bool) (columns : ℕ) (rows : List Row) →
    types_by typed (first_values columns rows) ≡ request_types (typing_of typed) columns rows
types_are true columns rows =
    map-map (λ value. type_of_value value) (λ column. first_in_column column rows)
    (range_with_len 0 columns)
types_are false columns rows = refl

-- the rows of a part
rows_are : (rows : List (Bor (List (Bor Value)))) (start count n : ℕ) → n ≡ count →
    rows_in (take n (drop start rows)) ≡ rows_of (rows_in rows) start count
rows_are rows start count n is =
    ap (λ k. rows_in (take k (drop start rows))) is ∙
    sym (take-map (λ (row : Bor (List (Bor Value))). row_in row.now) count (drop start rows))
    ∙ ap (λ l. take count l) (sym (drop-map (λ (row : Bor (List (Bor Value))). row_in row.now) start rows))

-- the rows before a part and those of the part
pub rows_up_to : (rows : List (Bor (List (Bor Value)))) (start count n : ℕ) → n ≡ count →
    take start (rows_in rows) ++ rows_in (take n (drop start rows)) ≡
    take (start + count) (rows_in rows)
rows_up_to rows start count n is =
    let all = take (start + count) (rows_in rows) in
    ap (λ (l : List Row). take start (rows_in rows) ++ l) (rows_are rows start count n is ∙
    sym (drop-take start count (rows_in rows)))
    ∙ ap (λ (l : List Row). l ++
    drop start all) (sym (take-take start (start + count) (rows_in rows) (omega arith))) ∙
    take-append-drop start all

-- a request by its flags and its types
request_is : (id columns : ℕ) (rows : List Row) (start count : ℕ) (typing : Typing) →
    bulk_command id (request_flags typing)
    (request_types typing columns (take (start + count) rows)) (rows_of rows start count) ≡
    bulk_request id columns rows start typing count
request_is id columns rows start count Typed = refl
request_is id columns rows start count Untyped = refl

-- the request that was written is that of the part
part_request : (id columns : ℕ) (rows : List (Bor (List (Bor Value)))) (start n : ℕ)
    (part : BulkPart) (firsts : List (Bor Value)) → row_in firsts ≡
    first_values columns (take (start + part.count) (rows_in rows)) → n ≡ part.count →
    bulk_command id (request_flags (typing_of part.typed)) (types_by part.typed (row_in firsts))
    (rows_in (take n (drop start rows))) ≡
    bulk_request id columns (rows_in rows) start (typing_of part.typed) part.count
part_request id columns rows start n part firsts are is =
    ap (λ l. bulk_command id (request_flags (typing_of part.typed)) (types_by part.typed l)
    (rows_in (take n (drop start rows)))) are
    ∙ ap (λ types. bulk_command id (request_flags (typing_of part.typed)) types
    (rows_in (take n (drop start rows))))
    (types_are part.typed columns (take (start + part.count) (rows_in rows)))
    ∙ ap (λ l. bulk_command id (request_flags (typing_of part.typed))
    (request_types (typing_of part.typed) columns (take (start + part.count) (rows_in rows))) l)
    (rows_are rows start part.count n is)
    ∙ request_is id columns (rows_in rows) start part.count (typing_of part.typed)

-- and so is the command that was written, in a buffer that had been cleared
pub part_command : (id columns : ℕ) (rows : List (Bor (List (Bor Value)))) (start n : ℕ)
    (part : BulkPart) (firsts : List (Bor Value)) (cleared command : List ℕ) → row_in firsts ≡
    first_values columns (take (start + part.count) (rows_in rows)) → n ≡ part.count →
    cleared ≡ [] → command ≡ cleared ++
    bulk_command id (request_flags (typing_of part.typed)) (types_by part.typed (row_in firsts))
    (rows_in (take n (drop start rows))) → command ≡
    bulk_request id columns (rows_in rows) start (typing_of part.typed) part.count
part_command id columns rows start n part firsts cleared command are is none put =
    put ∙ ap (λ l. l ++ bulk_command id (request_flags (typing_of part.typed))
    (types_by part.typed (row_in firsts)) (rows_in (take n (drop start rows)))) none ∙
    part_request id columns rows start n part firsts are is

-- ---- part by part

-- one more part was sent: those that are left go on from it
pub part_sent : (id columns : ℕ) (rows : List Row) (start : ℕ) (parts later : List BulkPart)
    (part : BulkPart) (out new total : List ℕ) → parts ≡ part ∷ later →
    out ++ framings (requests_from id columns rows start (view_parts parts)) EachFromZero ≡ total →
    new ≡ out ++ framing (bulk_request id columns rows start (typing_of part.typed) part.count)
    0 →
    new ++ framings (requests_from id columns rows (start + part.count) (view_parts later)) EachFromZero ≡ total
part_sent id columns rows start parts later part out new total here before put =
    let rest = framings (requests_from id columns rows (start + part.count) (view_parts later)) EachFromZero in
    ap (λ l. l ++ rest) put ∙
    append_assoc out (framing
    (bulk_request id columns rows start (typing_of part.typed) part.count) 0) rest
    ∙ ap (λ l. out ++ framings (requests_from id columns rows start (view_parts l)) EachFromZero) (sym here) ∙ before

-- the rows that are left
pub part_left : (start n : ℕ) (parts later : List BulkPart) (part : BulkPart) → parts ≡ part ∷
    later → start + sum_by (λ p. p.count) (view_parts parts) ≡ n →
    (start + part.count) + sum_by (λ p. p.count) (view_parts later) ≡ n
part_left start n parts later part here before =
    let first = sum_by-cons (λ (p : Part). p.count) (view_part part) (view_parts later) in
    omega (arith, before, ap (λ l. sum_by (λ (p : Part). p.count) (view_parts l)) here, first)

-- what stood before is kept
pub kept_more : (old out new piece : List ℕ) → length old ≤ length out → take (length old) out ≡
    old → new ≡ out ++ piece → take (length old) new ≡ old
kept_more old out new piece le kept put = ap (λ l. take (length old) l) put ∙
    take-append-le (length old) out piece le ∙ kept

-- ---- behind the prepare

-- where the statement can be prepared and has placeholders, nothing speaks against the query
query_none : (prepare : Option Refusal) (none : Bool) → prepare ≡ None → none ≡ false →
    option_or prepare (cause_if none refusals.NoPlaces) ≡ None
query_none prepare none prepared some = rw (prepared, some) refl

-- the second of three causes, where the first is none
second_is : (first second third : Option Refusal) (refusal : Refusal) → first ≡ None → second ≡
    Some refusal → option_or first (option_or second (option_or third None)) ≡ Some refusal
second_is first second third refusal none some = rw (none, some) refl

-- the third of them
third_is : (first second third : Option Refusal) (refusal : Refusal) → first ≡ None → second ≡
    None → third ≡ Some refusal → option_or first (option_or second (option_or third None)) ≡
    Some refusal
third_is first second third refusal none nor some = rw (none, nor, some) refl

-- none of them
none_is : (first second third : Option Refusal) → first ≡ None → second ≡ None → third ≡ None →
    option_or first (option_or second (option_or third None)) ≡ None
none_is first second third none nor neither = rw (none, nor, neither) refl

-- the values of sets that all give some
values_back : (rows : List Row) → values_of (map Ok rows) ≡ rows
values_back [] = refl
values_back (row ∷ rows) = ap (λ l. row ∷ l) (values_back rows)

-- the payloads of requests
payloads_are : (id columns : ℕ) (rows : List Row) (parts : List (ℕ × Part)) →
    payloads_of (map (λ p. record {
      payload =
          bulk_request id columns rows p.0 p.1.typing p.1.count;
      sets = rows_of rows p.0 p.1.count;
    })
    parts) ≡ map (λ p. bulk_request id columns rows p.0 p.1.typing p.1.count) parts
payloads_are id columns rows [] = refl
payloads_are id columns rows (p ∷ parts) =
    ap (λ l. bulk_request id columns rows p.0 p.1.typing p.1.count ∷
    l) (payloads_are id columns rows parts)

-- what is said over a number, a count and names is said over equal ones
pub said_over : (P : ℕ → ℕ → List (List ℕ) → Type 0) (number id count places : ℕ)
    (names those : List (List ℕ)) → number ≡ id → count ≡ places → names ≡ those →
    P number count names → P id places those
said_over P number id count places names those one many named holds =
    subst (λ (l : List (List ℕ)). P id places l) named
    (subst (λ (n : ℕ). P id n names) many (subst (λ (n : ℕ). P n count names) one holds))

-- what speaks against the prepare is the first cause
pub refused_prepare : (query : Sql) (sets : List (List ℕ) → List Given) (id limit : ℕ)
    (refusal : Refusal) → RefusesPrepare query id (limit - 4) refusal →
    RefusesGiven Bulk query sets id limit refusal
refused_prepare query sets id limit refusal (inl memory) = inl memory
refused_prepare query sets id limit refusal (inr why) =
    inr (record {
      tokens = why.0;
      has = why.1;
      first = first_is (query_cause Bulk (statement_of query why.0 id) (limit - 4)) _ refusal
          (first_is (prepare_cause (statement_of query why.0 id).query (limit - 4))
          (cause_if (length (places_of query why.0) == 0) refusals.NoPlaces) refusal why.2);
    })

-- no placeholders are the cause where nothing speaks against the prepare
no_places_cause : (prepare : Option Refusal) (none : Bool) → prepare ≡ None → none ≡ true →
    option_or prepare (cause_if none refusals.NoPlaces) ≡ Some refusals.NoPlaces
no_places_cause prepare none prepared empty = rw (prepared, empty) refl

module _ (once : OneTokens) (query : Sql) (parsed : Parsed) (places : ℕ)
    (s : IsStatement query parsed places) (sets : List Params) (stop : Option SetError)
    (id limit : ℕ) (old mid : List ℕ) (p : AppendsPrepare query id (limit - 4) old mid) where
  same : p.0 ≡ s.tokens
  same = once query.mode query.text p.0 s.tokens p.1 s.has

  -- nothing speaks against the prepare, which is appended
  prepared : prepare_cause (statement_of query s.tokens id).query (limit - 4) ≡ None
  prepared = subst (λ (t : List (List ℕ)). prepare_cause (statement_of query t id).query (limit - 4) ≡ None) same p.2

  prepare : mid ≡ old ++ framing (prepare_command (statement_of query s.tokens id).query.parsed) 0
  prepare =
      subst (λ (t : List (List ℕ)). mid ≡ old ++ stream_of (prepare_of (statement_of query t id) ∷ [])) same p.3
      ∙ ap (λ l. old ++ l) (append-nil (framing (prepare_command (statement_of query s.tokens id).query.parsed) 0))

  -- a query without placeholders is refused
  pub refused_no_places : places ≡ 0 → RefusesGiven Bulk query (given_up_to sets stop) id limit refusals.NoPlaces
  refused_no_places none =
      inr (record {
        tokens = s.tokens;
        has = s.has;
        first = first_is (query_cause Bulk (statement_of query s.tokens id) (limit - 4)) _ refusals.NoPlaces
            (no_places_cause (prepare_cause (statement_of query s.tokens id).query (limit - 4))
            (length (places_of query s.tokens) == 0) prepared
            (subst (λ (n : ℕ). (n == 0) ≡ true) (sym none ∙ s.count) refl));
      })

  -- nothing speaks against the query
  no_query_cause : places ≢ 0 → query_cause Bulk (statement_of query s.tokens id) (limit - 4) ≡ None
  no_query_cause some = query_none
      (prepare_cause (statement_of query s.tokens id).query (limit - 4))
      (length (places_of query s.tokens) == 0) prepared
      (subst (λ (n : ℕ). (n == 0) ≡ false) s.count (ne_eqb places 0 some))

  -- what was said over the statement's names and count is said over the tokens'
  over_tokens : (P : ℕ → List Given → Type 0) → P places (given_up_to sets stop parsed.names) →
      P (length (places_of query s.tokens)) (given_up_to sets stop (names_of s.tokens))
  over_tokens P holds =
      subst (λ (names : List (List ℕ)). P (length (places_of query s.tokens)) (given_up_to sets stop names)) s.names_are
      (subst (λ (n : ℕ). P n (given_up_to sets stop parsed.names)) s.count holds)

  -- a set is refused
  refused_sets : places ≢ 0 → (refusal : Refusal) →
      RefusesSets (record { places = places; bytes = limit - 4 })
      (given_up_to sets stop parsed.names) refusal →
      RefusesGiven Bulk query (given_up_to sets stop) id limit refusal
  refused_sets some refusal (inl memory) = inl memory
  refused_sets some refusal (inr this) =
      let cause : first_of_sets
      (set_cause no_command (length (places_of query s.tokens)) (limit - 4)) 0
      (given_up_to sets stop (names_of s.tokens)) ≡ Some refusal =
      over_tokens (λ n given. first_of_sets (set_cause no_command n (limit - 4)) 0 given ≡ Some refusal) this in
      inr (record {
        tokens = s.tokens;
        has = s.has;
        first = second_is (query_cause Bulk (statement_of query s.tokens id) (limit - 4)) _ _
            refusal (no_query_cause some) cause;
      })

  module _ (rows : List Row)
      (g : GivesRows (record { places = places; bytes = limit - 4 })
      (given_up_to sets stop parsed.names) rows) where
    -- the rows are given over the tokens
    given : GivesRows (limits_of (places_of query s.tokens) limit) (given_up_to sets stop (names_of s.tokens)) rows
    given = over_tokens (λ n given. GivesRows (record { places = n; bytes = limit - 4 }) given rows) g

    -- the values of the sets are the rows
    values : values_of (given_up_to sets stop (names_of s.tokens)) ≡ rows
    values = ap (λ l. values_of l) given.gives ∙ values_back rows

    -- the rows are refused
    refused_rows : places ≢ 0 → (refusal : Refusal) → RefusesRows places (limit - 4) rows refusal →
        RefusesGiven Bulk query (given_up_to sets stop) id limit refusal
    refused_rows some refusal (inl memory) = inl memory
    refused_rows some refusal (inr this) =
        let cause : bulk_cause (length (places_of query s.tokens)) (limit - 4)
        (values_of (given_up_to sets stop (names_of s.tokens))) ≡ Some refusal =
        ap (λ l. bulk_cause (length (places_of query s.tokens)) (limit - 4) l) values ∙
        ap (λ n. bulk_cause n (limit - 4) rows) (sym s.count) ∙ this in
        inr (record {
          tokens = s.tokens;
          has = s.has;
          first = third_is (query_cause Bulk (statement_of query s.tokens id) (limit - 4)) _ _
              refusal (no_query_cause some) given.none cause;
        })

    -- the prepare and the requests of all rows were sent
    pub all_requested : places ≢ 0 → (new : List ℕ) →
        AppendsRequests id places (limit - 4) rows mid new →
        SentReadable Bulk query (given_up_to sets stop) id limit old new
    all_requested some new sent =
        let a : AppendsRequests id (length (places_of query s.tokens)) (limit - 4) rows mid new =
        subst (λ (n : ℕ). AppendsRequests id n (limit - 4) rows mid new) s.count sent in
        let columns = length (places_of query s.tokens) in
        let requests = framings (requests_from id columns rows 0 a.cut) EachFromZero in
        record {
          sends = record {
            tokens = s.tokens;
            has = s.has;
            values = rows;
            given = given.gives;
            none = none_is (query_cause Bulk (statement_of query s.tokens id) (limit - 4)) _ _
                (no_query_cause some) given.none
                (ap (λ l. bulk_cause columns (limit - 4) l) values ∙ a.none);
            sent = prepare_of (statement_of query s.tokens id) ∷
                as_requests (statement_of query s.tokens id) rows a.cut;
            are_sent = (a.cut, a.tight, refl);
            appended = a.appended ∙ ap (λ l. l ++ requests) prepare ∙
                append_assoc old (framing
                (prepare_command (statement_of query s.tokens id).query.parsed) 0) requests
                ∙ ap (λ l. old ++ (framing
                (prepare_command (statement_of query s.tokens id).query.parsed) 0 ++
                framings l EachFromZero)) (sym (payloads_are id columns rows (placed a.cut)));
          };
          readable = given.fit;
        }

  -- the sets or their rows are refused
  pub refused_all : places ≢ 0 → (refusal : Refusal) →
      RefusesAll (record { places = places; bytes = limit - 4 })
      (given_up_to sets stop parsed.names) refusal →
      RefusesGiven Bulk query (given_up_to sets stop) id limit refusal
  refused_all some refusal (inl this) = refused_sets some refusal this
  refused_all some refusal (inr this) = refused_rows this.0 this.1 some refusal this.2
