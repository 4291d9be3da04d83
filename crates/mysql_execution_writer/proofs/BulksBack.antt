-- Bulk executions that were written are read again.
use Rattle.std.proofs.Common.{◌≡◌, ℕ, zero, suc, ◌+◌, ◌^◌, ◌<◌, ◌≤◌, Bool, true, false, List, [], ◌∷◌, ◌++◌, length}
use Rattle.std.proofs.Common.{map, Option, Some, None, refl, sym, ◌∙◌, ap, append_assoc, length-append, arith, lit<}
use Rattle.std.specs.Prelude.{if◌then◌else◌, is_some, nat_lt, not, unwrap_or}
use Rattle.std.specs.Option.{option_map}
use Rattle.std.specs.List.{AllByRecursion, flat_map, list_all}
use Rattle.std.proofs.lemmas.Bool.{eqb-true, lt-ltb, ltb-true}
use Rattle.std.proofs.lemmas.List.{length-map}
use Rattle.byteorder.specs.Endian.{little_bytes}
use Rattle.mysql_buf.specs.NumberLaws.{little-reads_back}
use Rattle.mysql_const.specs.BulkIndicators.{bulk_indicator_number}
use Rattle.mysql_const.specs.FlagSets.{contains}
use Rattle.mysql_const.specs.declared.capabilities.Capabilities.{Capabilities}
use Rattle.mysql_const.specs.declared.bulk.MariadbBulkIndicator.{MariadbBulkIndicator}
use Rattle.mysql_const.specs.declared.bulk.MariadbBulkIndicator.TheVariants.{BULK_INDICATOR_NONE, BULK_INDICATOR_NULL}
use Rattle.mysql_const.specs.declared.bulk.MariadbBulkIndicator.TheVariants.{BULK_INDICATOR_DEFAULT}
use Rattle.mysql_const.specs.declared.bulk.MariadbBulkIndicator.TheVariants.{BULK_INDICATOR_IGNORE}
use Rattle.mysql_cells.specs.Values.{FitsFields}
use Rattle.mysql_cells.specs.TypedCells.{TypedCellsReadBack}
use Rattle.mysql_cells.specs.Values.{is_null}
use Rattle.mysql_cells.specs.declared.value.Value.{Value}
use Rattle.mysql_cells.specs.declared.value.Value.TheVariants.{NULL, Bytes, Int, UInt, Float, Double, Date, Time}
use Rattle.mysql_executions.specs.declared.bulk.BulkValue.{BulkValue}
use Rattle.mysql_executions.specs.declared.bulk.BulkValue.TheVariants as bulk
use Rattle.mysql_executions.specs.declared.types.BoundType.{BoundType}
use Rattle.mysql_executions.specs.declared.types.ParameterType.{ParameterType}
use Rattle.mysql_executions.specs.Bulks.{BulkExecution, are_bulk_flags, bulk_execution_at, bulk_head, bulk_value_at}
use Rattle.mysql_executions.specs.Bulks.{indicated_at, row_at, rows_at, send_types_to_server, send_unit_results}
use Rattle.mysql_executions.specs.Bulks.{with_row}
use Rattle.mysql_executions.specs.Executions.{typed_value_at}
use Rattle.mysql_executions.specs.Fields.{◌>>=◌, ◌>>◌, each_at, must, number_at}
use Rattle.mysql_executions.specs.InForce.{InForce, is_waiting, types_that_count}
use Rattle.mysql_executions.specs.Types.{has_bulk_operations, own_types_at}
use Rattle.mysql_executions.specs.Views.{types_by}
use Rattle.mysql_execution_writer.specs.Bulks.{bulk_as_read, bulk_bytes, bulk_flags, bulk_value_as_read}
use Rattle.mysql_execution_writer.specs.Bulks.{bulk_value_bytes, can_have_bulk_types, can_put_bulk, indicator_bytes}
use Rattle.mysql_execution_writer.specs.Bulks.{is_row, row_bytes, told_cell}
use Rattle.mysql_execution_writer.specs.Cells.{as_read, fits_name, parameter_cell, types_bytes}
use Rattle.mysql_execution_writer.specs.Laws.{BulksReadBack, FitsBulk, FitsBulkValue, HaveLengths}
use Rattle.mysql_execution_writer.proofs.CellsBack.{value_back}
use Rattle.mysql_execution_writer.proofs.Loops.{and_left, and_right}
use Rattle.mysql_execution_writer.proofs.TypesBack.{all_types_back}

-- ---- a parameter in a row

indicator_small : (indicator : MariadbBulkIndicator) (rest : List ℕ) →
    number_at 1 (indicator_bytes indicator ++ rest) ≡ Some (bulk_indicator_number indicator, rest)
indicator_small BULK_INDICATOR_NONE rest = little-reads_back 1 0 rest (lit< tt)
indicator_small BULK_INDICATOR_NULL rest = little-reads_back 1 1 rest (lit< tt)
indicator_small BULK_INDICATOR_DEFAULT rest = little-reads_back 1 2 rest (lit< tt)
indicator_small BULK_INDICATOR_IGNORE rest = little-reads_back 1 3 rest (lit< tt)

told : (indicator : MariadbBulkIndicator) (t : ParameterType) (rest : List ℕ) →
    bulk_value_at t (indicator_bytes indicator ++ rest) ≡ indicated_at indicator t rest
unfolding bulk_value_at
told BULK_INDICATOR_NONE t rest = rw (indicator_small BULK_INDICATOR_NONE rest) refl
told BULK_INDICATOR_NULL t rest = rw (indicator_small BULK_INDICATOR_NULL rest) refl
told BULK_INDICATOR_DEFAULT t rest = rw (indicator_small BULK_INDICATOR_DEFAULT rest) refl
told BULK_INDICATOR_IGNORE t rest = rw (indicator_small BULK_INDICATOR_IGNORE rest) refl

module _ (back : TypedCellsReadBack) (t : ParameterType) (rest : List ℕ) where
  by_cell : (value : Value) (o : Option (List ℕ)) → is_some (told_cell o) ≡ true →
      (is_some o ≡ true → typed_value_at t (unwrap_or o [] ++ rest) ≡ Some (as_read value, rest))
      → bulk_value_at t (unwrap_or (told_cell o) [] ++ rest) ≡ Some (bulk.Value (as_read value), rest)
  by_cell value None some known = absurd cc
  by_cell value (Some cell) some known =
      ap (bulk_value_at t) (append_assoc (indicator_bytes BULK_INDICATOR_NONE) cell rest) ∙
      told BULK_INDICATOR_NONE t (cell ++ rest)
      ∙ ap (λ (r : Option (Value × List ℕ)). r >>= λ value. Some (bulk.Value value.0, value.1)) (known refl)

  value_told : (value : Value) → FitsFields value → is_null value ≡ false →
      is_some (told_cell (parameter_cell t value)) ≡ true
      → bulk_value_at t (unwrap_or (told_cell (parameter_cell t value)) [] ++ rest) ≡
      Some (bulk.Value (as_read value), rest)
  value_told value fits none some =
      by_cell value (parameter_cell t value) some
      (λ has. value_back back t rest value fits none has)

  pub bulk_value_back : (value : BulkValue) → FitsBulkValue value →
      is_some (bulk_value_bytes t value) ≡ true →
      bulk_value_at t (unwrap_or (bulk_value_bytes t value) [] ++ rest) ≡
      Some (bulk_value_as_read value, rest)
  bulk_value_back (bulk.Value NULL) fits some = told BULK_INDICATOR_NULL t rest
  bulk_value_back (bulk.Value (Bytes bytes)) fits some = value_told (Bytes bytes) fits refl some
  bulk_value_back (bulk.Value (Int z)) fits some = value_told (Int z) fits refl some
  bulk_value_back (bulk.Value (UInt n)) fits some = value_told (UInt n) fits refl some
  bulk_value_back (bulk.Value (Float bits)) fits some = value_told (Float bits) fits refl some
  bulk_value_back (bulk.Value (Double bits)) fits some = value_told (Double bits) fits refl some
  bulk_value_back (bulk.Value (Date year month day hour minute second micros)) fits some =
      value_told (Date year month day hour minute second micros) fits refl some
  bulk_value_back (bulk.Value (Time negative days hours minutes seconds micros)) fits some =
      value_told (Time negative days hours minutes seconds micros) fits refl some
  bulk_value_back bulk.Default fits some = told BULK_INDICATOR_DEFAULT t rest
  bulk_value_back bulk.Ignore fits some = told BULK_INDICATOR_IGNORE t rest

-- ---- rows

row_back : TypedCellsReadBack →
    (place : ℕ) (types : List ParameterType) (row : List BulkValue) (rest : List ℕ) →
    AllByRecursion (λ value. FitsBulkValue value) row → is_row types row ≡ true
    → each_at (λ place t b. bulk_value_at t b) place types (row_bytes types row ++ rest) ≡
    Some (map bulk_value_as_read row, rest)
unfolding each_at is_row row_bytes
row_back back place [] [] rest fits can = refl
row_back back place [] (value ∷ row) rest fits can = absurd cc
row_back back place (t ∷ types) [] rest fits can = absurd cc
row_back back place (t ∷ types) (value ∷ row) rest fits can =
    let own = unwrap_or (bulk_value_bytes t value) [] in
    let others = row_bytes types row in
    let this = and_left (is_some (bulk_value_bytes t value)) (is_row types row) can in
    let later = and_right (is_some (bulk_value_bytes t value)) (is_row types row) can in
    ap (λ (l : List ℕ). each_at (λ place t b. bulk_value_at t b) place (t ∷ types) l) (append_assoc own others rest)
    ∙ ap (λ (r : Option (BulkValue × List ℕ)). r >>= λ first. each_at
    (λ place t b. bulk_value_at t b) (place + 1) types first.1 >>= λ others. Some (
      first.0 ∷
          others.0,
      others.1,
    ))
    (bulk_value_back back t (others ++ rest) value fits.0 this)
    ∙ ap (λ (r : Option (List BulkValue × List ℕ)). r >>= λ others. Some (
      bulk_value_as_read value ∷
          others.0,
      others.1,
    ))
    (row_back back (place + 1) types row rest fits.1 later)

-- what a parameter takes at the least
told_some : (o : Option (List ℕ)) → is_some (told_cell o) ≡ true → 0 < length (unwrap_or (told_cell o) [])
told_some (Some cell) some = omega arith
told_some None some = absurd cc

value_takes : (t : ParameterType) (value : BulkValue) → is_some (bulk_value_bytes t value) ≡ true →
    0 < length (unwrap_or (bulk_value_bytes t value) [])
value_takes t (bulk.Value NULL) some = lit< tt
value_takes t (bulk.Value (Bytes bytes)) some = told_some (parameter_cell t (Bytes bytes)) some
value_takes t (bulk.Value (Int z)) some = told_some (parameter_cell t (Int z)) some
value_takes t (bulk.Value (UInt n)) some = told_some (parameter_cell t (UInt n)) some
value_takes t (bulk.Value (Float bits)) some = told_some (parameter_cell t (Float bits)) some
value_takes t (bulk.Value (Double bits)) some = told_some (parameter_cell t (Double bits)) some
value_takes t (bulk.Value (Date year month day hour minute second micros)) some =
    told_some (parameter_cell t (Date year month day hour minute second micros)) some
value_takes t (bulk.Value (Time negative days hours minutes seconds micros)) some =
    told_some (parameter_cell t (Time negative days hours minutes seconds micros)) some
value_takes t bulk.Default some = lit< tt
value_takes t bulk.Ignore some = lit< tt

row_takes : (types : List ParameterType) (row : List BulkValue) → 0 < length types →
    is_row types row ≡ true → 0 < length (row_bytes types row)
unfolding is_row row_bytes
row_takes [] row some can = absurd (omega (arith, some))
row_takes (t ∷ types) [] some can = absurd cc
row_takes (t ∷ types) (value ∷ row) some can =
    omega (
      arith,
      value_takes t value
          (and_left (is_some (bulk_value_bytes t value)) (is_row types row) can),
      length-append (unwrap_or (bulk_value_bytes t value) []) (row_bytes types row),
    )

pub rows_take : (types : List ParameterType) (rows : List (List BulkValue)) → 0 < length types →
    list_all (is_row types) rows ≡ true → length rows ≤ length (flat_map (row_bytes types) rows)
rows_take types [] some can = omega arith
rows_take types (row ∷ rows) some can =
    omega (
      arith,
      row_takes types row some (and_left (is_row types row) (list_all (is_row types) rows) can),
      rows_take types rows some (and_right (is_row types row) (list_all (is_row types) rows) can),
      length-append (row_bytes types row) (flat_map (row_bytes types) rows),
    )

rows_step : (most : ℕ) (types : List ParameterType) (bytes : List ℕ) (row : List BulkValue)
    (after : List ℕ) → row_at types bytes ≡ Some (row, after)
    → rows_at (suc most) types bytes ≡ with_row row (rows_at most types after)
unfolding rows_at
rows_step most types bytes row after e =
    ap (λ (r : Option (List BulkValue × List ℕ)). unwrap_or
    (option_map (λ first. with_row first.0 (rows_at most types first.1)) r) ([], bytes)) e

none_is : {A : Type 0} (o : Option A) → is_some o ≡ false → o ≡ None
none_is None e = refl
none_is (Some x) e = absurd cc

no_rows : (most : ℕ) (types : List ParameterType) (bytes : List ℕ) → is_some (row_at types bytes) ≡
    false → rows_at most types bytes ≡ ([], bytes)
unfolding rows_at
no_rows zero types bytes none = refl
no_rows (suc most) types bytes none =
    ap (λ (r : Option (List BulkValue × List ℕ)). unwrap_or
    (option_map (λ first. with_row first.0 (rows_at most types first.1)) r) ([], bytes))
    (none_is (row_at types bytes) none)

pub rows_back : TypedCellsReadBack →
    (most : ℕ) (types : List ParameterType) (rows : List (List BulkValue)) (rest : List ℕ) →
    length rows ≤ most
    → AllByRecursion (λ row. AllByRecursion (λ value. FitsBulkValue value) row) rows →
    list_all (is_row types) rows ≡ true → is_some (row_at types rest) ≡ false
    → rows_at most types (flat_map (row_bytes types) rows ++ rest) ≡
    (map (λ row. map bulk_value_as_read row) rows, rest)
rows_back back most types [] rest few fits can none = no_rows most types rest none
rows_back back zero types (row ∷ rows) rest few fits can none = absurd (omega (arith, few))
rows_back back (suc most) types (row ∷ rows) rest few fits can none =
    let later = flat_map (row_bytes types) rows in
    let this = and_left (is_row types row) (list_all (is_row types) rows) can in
    ap (rows_at (suc most) types) (append_assoc (row_bytes types row) later rest)
    ∙ rows_step most types (row_bytes types row ++ (later ++ rest)) (map bulk_value_as_read row)
    (later ++ rest) (row_back back 0 types row (later ++ rest) fits.0 this)
    ∙ ap (with_row (map bulk_value_as_read row))
    (rows_back back most types rows rest (omega (arith, few)) fits.1
    (and_right (is_row types row) (list_all (is_row types) rows) can) none)

-- ---- the whole

pub record Parts (c : Capabilities) (s : InForce) (e : BulkExecution) : Type 0 where
  pub bulks : has_bulk_operations c ≡ true
  pub whole : not s.broken ≡ true
  pub none_waits : not (is_waiting s) ≡ true
  pub some_parameters : nat_lt 0 s.count ≡ true
  pub types : can_have_bulk_types s e.types ≡ true
  pub names : list_all (fits_name false) (unwrap_or e.types []) ≡ true
  pub some_rows : nat_lt 0 (length e.rows) ≡ true
  pub rows : list_all (is_row (types_by e.types s.types)) e.rows ≡ true
  pub rest : is_some (row_at (types_by e.types s.types) e.rest) ≡ false

not_is : (b : Bool) → not b ≡ true → b ≡ false
not_is true e = absurd cc
not_is false e = refl

parts : (c : Capabilities) (s : InForce) (e : BulkExecution) → can_put_bulk c s e ≡ true → Parts c s e
unfolding can_put_bulk
parts c s e can =
    let r = and_left _ (not (is_some (row_at (types_by e.types s.types) e.rest))) can in
    let g = and_left _ (list_all (is_row (types_by e.types s.types)) e.rows) r in
    let f = and_left _ (nat_lt 0 (length e.rows)) g in
    let n = and_left _ (list_all (fits_name false) (unwrap_or e.types [])) f in
    let t = and_left _ (can_have_bulk_types s e.types) n in
    let p = and_left _ (nat_lt 0 s.count) t in
    let w = and_left _ (not (is_waiting s)) p in
    record {
      bulks = and_left (has_bulk_operations c) (not s.broken) w;
      whole = and_right (has_bulk_operations c) (not s.broken) w;
      none_waits = and_right _ (not (is_waiting s)) p;
      some_parameters = and_right _ (nat_lt 0 s.count) t;
      types = and_right _ (can_have_bulk_types s e.types) n;
      names = and_right _ (list_all (fits_name false) (unwrap_or e.types [])) f;
      some_rows = and_right _ (nat_lt 0 (length e.rows)) g;
      rows = and_right _ (list_all (is_row (types_by e.types s.types)) e.rows) r;
      rest = not_is (is_some (row_at (types_by e.types s.types) e.rest))
          (and_right _ (not (is_some (row_at (types_by e.types s.types) e.rest))) can);
    }

abbrev flags_by : Bool → Bool → ℕ
flags_by unit_results bound =
    (if unit_results then send_unit_results else 0) + (if bound then send_types_to_server else 0)

record Flags (unit_results bound : Bool) : Type 0 where
  small : flags_by unit_results bound < 256 ^ 2
  named : are_bulk_flags (flags_by unit_results bound) ≡ true
  types : contains (flags_by unit_results bound) send_types_to_server ≡ bound
  results : contains (flags_by unit_results bound) send_unit_results ≡ unit_results

flags_say : (unit_results bound : Bool) → Flags unit_results bound
flags_say true true = record { small = lit< tt; named = refl; types = refl; results = refl }
flags_say true false = record { small = lit< tt; named = refl; types = refl; results = refl }
flags_say false true = record { small = lit< tt; named = refl; types = refl; results = refl }
flags_say false false = record { small = lit< tt; named = refl; types = refl; results = refl }

module _ (c : Capabilities) (s : InForce) (e : BulkExecution) (p : Parts c s e) (fits : FitsBulk e)
    (back : TypedCellsReadBack) where
  flags : Flags e.unit_results (is_some e.types)
  flags = flags_say e.unit_results (is_some e.types)

  own_back : (types : Option (List BoundType)) (rest : List ℕ) → can_have_bulk_types s types ≡
      true → HaveLengths (unwrap_or types []) → list_all (fits_name false) (unwrap_or types []) ≡
      true
      → own_types_at (is_some types) false s.count (types_bytes false (unwrap_or types []) ++ rest) ≡ Some (types, rest)
  own_back None rest can short names = refl
  own_back (Some own) rest can short names =
      ap (λ (r : Option (List BoundType × List ℕ)). r >>= λ types. Some (Some types.0, types.1))
      (all_types_back false s.count own rest (sym (eqb-true (length own) s.count can)) short names)

  count_back : (types : Option (List BoundType)) → can_have_bulk_types s types ≡ true →
      types_that_count s types ≡ Some (types_by types s.types)
  count_back (Some own) can = refl
  count_back None can = ap (λ (b : Bool). must b >> Some s.types) can

  many : (types : Option (List BoundType)) → can_have_bulk_types s types ≡ true →
      length (types_by types s.types) ≡ s.count
  many (Some own) can = length-map own (λ t. t.parameter_type) ∙ eqb-true (length own) s.count can
  many None can = eqb-true (length s.types) s.count can

  some_types : 0 < length (types_by e.types s.types)
  some_types = omega (arith, many e.types p.types, ltb-true 0 s.count p.some_parameters)

  pub whole_back : bulk_execution_at c s (bulk_bytes s e) ≡ Some (bulk_as_read e)
  unfolding bulk_execution_at bulk_bytes bulk_head
  whole_back =
      let rows = flat_map (row_bytes (types_by e.types s.types)) e.rows ++ e.rest in
      let took = rows_take (types_by e.types s.types) e.rows some_types p.rows in
      let fit : length e.rows ≤ length rows =
      omega (
        arith,
        took,
        length-append (flat_map (row_bytes (types_by e.types s.types)) e.rows)
            e.rest,
      ) in
      let types = types_bytes false (unwrap_or e.types []) in
      rw (
        p.bulks,
        p.whole,
        p.none_waits,
        p.some_parameters,
        little-reads_back 4 e.statement (little_bytes 2 (bulk_flags e) ++ (types ++ rows)) fits.statement,
        little-reads_back 2 (bulk_flags e) (types ++ rows) flags.small,
        flags.named,
        flags.types,
        own_back e.types rows p.types fits.names p.names,
        count_back e.types p.types,
        rows_back back (length rows) (types_by e.types s.types) e.rows e.rest fit fits.rows p.rows p.rest,
        lt-ltb 0 (length (map (λ row. map bulk_value_as_read row) e.rows))
            (omega (
              arith,
              length-map e.rows (λ row. map bulk_value_as_read row),
              ltb-true 0 (length e.rows) p.some_rows,
            )),
      )
      (λ i. Some (record (bulk_as_read e) { unit_results = flags.results i }))

pub bulks_read_back : TypedCellsReadBack → BulksReadBack
bulks_read_back back c s e fits can = whole_back c s e (parts c s e can) fits back
