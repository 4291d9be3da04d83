-- A prepare and bulk requests that were sent are read back.
use Rattle.std.proofs.Common.{◌≡◌, ℕ, zero, suc, ◌+◌, ◌-◌, ◌^◌, ◌<◌, ◌≤◌, ◌==◌, List, [], ◌∷◌, length, get_or, map}
use Rattle.std.proofs.Common.{Option, None, Some, Ok, refl, sym, ◌∙◌, ap, subst, arith}
use Rattle.std.specs.Prelude.{sum_by}
use Rattle.std.specs.List.{AllByRecursion}
use Rattle.std.specs.Option.{option_map, option_or}
use Rattle.std.proofs.lemmas.List.Sums.{sum_by-cons}
use Rattle.mysql_values.specs.Values.{FitsFields}
use Rattle.mysql_values.specs.CellLaws.{CellLength}
use Rattle.mysql_values.specs.Value.{Value}
use Rattle.mysql_values.specs.Values.{content_of}
use Rattle.mysql_bulk_builder.specs.Causes.{mixed_kinds, row_too_large}
use Rattle.mysql_bulk_builder.specs.Cut.{Row, rows_of, rows_size}
use Rattle.mysql_bulk_builder.specs.InForce.{TypesInForceServe, TypesServe, covered, in_force, in_force_from}
use Rattle.mysql_bulk_builder.specs.TypedCut.{IsTightTyped, IsTightTypedPart, Part, PartFits, Typed, TypedCutFits}
use Rattle.mysql_bulk_builder.specs.TypedCut.{Typing, Untyped, placed, placed_from}
use Rattle.mysql_receive.specs.InForce.{StatementState, after, nothing_yet, state_after}
use Rattle.mysql_receive.specs.Laws.{WrittenCellsAreHeld}
use Rattle.mysql_receive.specs.Query.{Statement, place_count, statement_of}
use Rattle.mysql_command_rules.specs.declared.refusal.Refusal.{Refusal}
use Rattle.mysql_command_rules.specs.declared.refusal.Refusal.TheVariants as refusals
use Rattle.mysql_command_rules.specs.declared.road.Road.TheVariants.{Bulk}
use Rattle.mysql_command_rules.specs.Cause.{bulk_cause, cause_if, first_of_sets, prepare_cause, query_cause, set_cause}
use Rattle.mysql_command_rules.specs.Commands.{bulk_request, prepare_command, types_size}
use Rattle.mysql_command_rules.specs.Laws.{RequestsHaveTheirSize, SentPayloadsRead}
use Rattle.mysql_command_rules.specs.Sent.{SentPayload, as_requests, payloads_of, prepare_of, whole_command}
use Rattle.mysql_command_rules.specs.Sets.{values_of}
use Rattle.mysql_command_rules.proofs.Contents.{IsGood, all_held, good, neither, within_limit}
use Rattle.mysql_command_rules.proofs.Executable.{IsPreparable, preparable}
use Rattle.mysql_command_rules.proofs.Held.{held}
use Rattle.mysql_command_rules.proofs.Preparing.{FreshlyPrepared, prepare_leaves, prepare_reads}
use Rattle.mysql_command_rules.proofs.ReadEach.{ReadFrom, not_waiting, read_each}
use Rattle.mysql_command_rules.proofs.RequestRows.{IsHeld}
use Rattle.mysql_command_rules.proofs.RequestSizes.{requests_have_their_size}
use Rattle.mysql_command_rules.proofs.Requests.{IsInForce, request_goes}
use Rattle.mysql_command_rules.proofs.SentSets.{ReadsHeld, reads_contents}

-- ---- what no cause says

-- no cause, nothing found
unmapped : {A : Type 0} (cause : A → Refusal) (found : Option A) → option_map (λ a. cause a) found ≡ None → found ≡ None
unmapped cause None none = refl
unmapped cause (Some a) none = cc

-- the values of sets that all give some
values_back : (rows : List Row) → values_of (map Ok rows) ≡ rows
values_back [] = refl
values_back (row ∷ rows) = ap (λ l. row ∷ l) (values_back rows)

-- there are placeholders
some_places : (n : ℕ) → cause_if (n == 0) refusals.NoPlaces ≡ None → 0 < n
some_places zero none = cc
some_places (suc n) none = omega arith

-- no column mixes kinds
one_kind : (columns room : ℕ) (rows : List Row) → bulk_cause columns room rows ≡ None → mixed_kinds rows ≡ None
one_kind columns room rows none =
    let parts = neither (option_map (λ at. refusals.MixedKinds at.0 at.1) (mixed_kinds rows))
    (option_or (option_map (λ set. refusals.RowTooLarge set) (row_too_large room columns rows))
    None) none in
    unmapped (λ at. refusals.MixedKinds at.0 at.1) (mixed_kinds rows) parts.0

-- values that fit their fields and of which none is a float can be read back
held_each : (values : List Value) → AllByRecursion (λ value. FitsFields value) values →
    map content_of values ≡ map Some (map held values) → AllByRecursion IsHeld values
held_each [] fit each = tt
held_each (value ∷ values) fit each =
    let first : content_of value ≡ Some (held value) = cc in
    let others : map content_of values ≡ map Some (map held values) = cc in
    ((fit.0, first), held_each values fit.1 others)

-- each row has a value for each place, and they can be read back
good_rows : (command : List Value → List ℕ) (places room number : ℕ) (rows : List Row) →
    first_of_sets (set_cause command places room) number (map Ok rows) ≡ None →
    AllByRecursion (AllByRecursion (λ value. FitsFields value)) rows →
    (k : ℕ) → k < length rows → (length (get_or rows k []) ≡ places) × AllByRecursion IsHeld (get_or rows k [])
good_rows command places room number [] none fit k inside = absurd (omega arith)
good_rows command places room number (row ∷ rows) none fit zero inside =
    let parts = neither (set_cause command places room number (Ok row))
    (first_of_sets (set_cause command places room) (number + 1) (map Ok rows)) none in
    let g : IsGood command places room row = good command places room number row parts.0 in
    (g.count_is, held_each row fit.0 (all_held 0 row g.exact))
good_rows command places room number (row ∷ rows) none fit (suc k) inside =
    let parts = neither (set_cause command places room number (Ok row))
    (first_of_sets (set_cause command places room) (number + 1) (map Ok rows)) none in
    good_rows command places room (number + 1) rows parts.1 fit.1 k (omega arith)

-- ---- all parts

module _ (room id columns : ℕ) (rows : List Row) where
  -- the requests of the parts from a row on
  abbrev pub requests_from : ℕ → List Part → List SentPayload
  requests_from start cut =
      map (λ p. record {
        payload = bulk_request id columns rows p.0 p.1.typing p.1.count;
        sets =
            rows_of rows p.0 p.1.count;
      }) (placed_from start cut)

  -- parts that fit
  abbrev pub AllFit : List (ℕ × Part) → Type 0
  AllFit parts = AllByRecursion (λ p. PartFits room columns rows p.0 p.1.typing p.1.count) parts

  -- those of a tight cut do
  pub all_fit : (parts : List (ℕ × Part)) →
      AllByRecursion (λ p. IsTightTypedPart room columns rows p.0 p.1) parts → AllFit parts
  all_fit [] tight = tt
  all_fit (p ∷ parts) tight = (tight.0.fits, all_fit parts tight.1)

  -- a part that fits has room for its request
  fits_by : (start : ℕ) (typing : Typing) (count : ℕ) →
      PartFits room columns rows start typing count →
      7 + types_size typing columns + rows_size rows start count ≤ room
  fits_by start Typed count fits = fits
  fits_by start Untyped count fits = omega (arith, fits.1)

  -- the requests of parts that fit have room
  pub short_requests : RequestsHaveTheirSize → (start : ℕ) (cut : List Part) →
      AllFit (placed_from start cut) →
      AllByRecursion (λ payload. length payload ≤ room) (payloads_of (requests_from start cut))
  short_requests sizes start [] fits = tt
  short_requests sizes start (part ∷ cut) fits = (
    subst (λ (n : ℕ). n ≤ room) (sym (sizes id columns rows start part.typing part.count))
        (fits_by start part.typing part.count fits.0),
    short_requests sizes (start + part.count) cut fits.1,
  )

  module _ (law : WrittenCellsAreHeld) (c : Statement) (small : id < 2 ^ 32) (same : c.id ≡
      id) (places : place_count c.query ≡ columns) (some : 0 < columns)
      (arity : (k : ℕ) → k < length rows → length (get_or rows k []) ≡ columns) (all : (k : ℕ) →
      k < length rows → AllByRecursion IsHeld (get_or rows k [])) where
    -- payloads that read from here on, and leave no long data
    abbrev ReadsOn : StatementState → List SentPayload → Type 0
    ReadsOn s sent = ReadFrom c s sent × ((k : ℕ) → (state_after c s (payloads_of sent)).long_data k ≡ None)

    -- the requests of parts by which no row is left over read, and leave no long data
    requests_go : (start before : ℕ) (cut : List Part) (s : StatementState) →
        IsInForce columns rows s start before → AllByRecursion (λ part. 0 < part.count) cut →
        start + sum_by (λ part. part.count) cut ≡ length rows →
        AllFit (placed_from start cut) →
        AllByRecursion (TypesServe rows) (in_force_from start before cut) →
        ReadsOn s (requests_from start cut)
    requests_go start before [] s in_force any ends fits serve = (tt, in_force.none)
    requests_go start before (part ∷ cut) s in_force any ends fits serve =
        let more = sum_by-cons (λ (part : Part). part.count) part cut in
        let payload : List ℕ = bulk_request id columns rows start part.typing part.count in
        let here = request_goes law c id columns rows small same places some arity all part.typing
        room s start part.count before in_force any.0 (omega (arith, more, ends)) fits.0
        serve.0 in
        let next = requests_go (start + part.count)
        (covered part.typing (start + part.count) before) cut (after c s payload) here.1 any.1
        (omega (arith, more, ends)) fits.1 serve.1 in (
          (here.0, next.0),
          next.1,
        )

-- what is sent of sets without a cause reads as these sets
pub requests_read : WrittenCellsAreHeld → CellLength → TypesInForceServe → SentPayloadsRead Bulk
requests_read law lengths serves query tokens id limit values sent has small room none are_sent readable =
    let statement : Statement = statement_of query tokens id in
    let columns : ℕ = place_count statement.query in
    let parsed : List ℕ = statement.query.parsed in
    let sets_first : Option Refusal =
    first_of_sets (set_cause (whole_command Bulk statement) columns (limit - 4)) 0
    (map Ok values) in
    let all_sets : Option Refusal = bulk_cause columns (limit - 4) (values_of (map Ok values)) in
    let query_none = neither (query_cause Bulk statement (limit - 4))
    (option_or sets_first (option_or all_sets None)) none in
    let sets_none = neither sets_first (option_or all_sets None) query_none.1 in
    let all_none = neither all_sets None sets_none.1 in
    let mixed : mixed_kinds values ≡ None =
    one_kind columns (limit - 4) values
    (ap (λ l. bulk_cause columns (limit - 4) l) (sym (values_back values)) ∙ all_none.0) in
    let prepare_none = neither (prepare_cause statement.query (limit - 4))
    (cause_if (columns == 0) refusals.NoPlaces) query_none.0 in
    let prepare : IsPreparable statement.query (limit - 4) = preparable statement.query (limit - 4) prepare_none.0 in
    let rows = good_rows (whole_command Bulk statement) columns (limit - 4) 0 values sets_none.0 readable in
    let cut : List Part = are_sent.0 in
    let tight : IsTightTyped (limit - 4) columns values cut = are_sent.1 in
    let fits : TypedCutFits (limit - 4) columns values cut =
    all_fit (limit - 4) id columns values (placed cut) tight.parts_tight in
    let serve : AllByRecursion (TypesServe values) (in_force cut) =
    serves (limit - 4) columns values cut (λ k inside. (rows k inside).0) mixed fits in
    let fresh : FreshlyPrepared (after statement nothing_yet (prepare_command parsed)) =
    prepare_leaves statement nothing_yet parsed refl in
    let goes = requests_go (limit - 4) id columns values law statement small refl refl
    (some_places columns prepare_none.1) (λ k inside. (rows k inside).0)
    (λ k inside. (rows k inside).1)
    0 0 cut (after statement nothing_yet (prepare_command parsed))
    (record {
      prepared = fresh.prepared;
      none = fresh.long_data;
      types =
          λ later. absurd (omega (arith, later));
    }) tight.is_cut.0 (omega (arith, tight.is_cut.1))
    fits serve in
    let all_sent : List SentPayload = prepare_of statement ∷ as_requests statement values cut in
    let reads : ReadsHeld statement limit all_sent = record {
      within = within_limit limit (payloads_of all_sent) (
        prepare.short,
        short_requests (limit - 4) id columns values (requests_have_their_size lengths) 0 cut
            fits,
      );
      each = read_each statement nothing_yet all_sent
          (prepare_reads statement nothing_yet parsed refl prepare.few, goes.0);
      ends = not_waiting statement (state_after statement nothing_yet (payloads_of all_sent)) goes.1;
    } in
    reads_contents Bulk statement (limit - 4) values sent are_sent (whole_command Bulk statement)
    columns (limit - 4) sets_none.0 statement limit
    (subst (λ l. ReadsHeld statement limit l) (sym are_sent.2) reads)
