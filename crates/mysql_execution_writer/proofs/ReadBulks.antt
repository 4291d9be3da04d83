-- Bulk executions that were read can be written, and are read again as they are.
use Rattle.std.proofs.Common.{◌≡◌, ℕ, zero, suc, ◌+◌, ◌<◌, ◌==◌, true, false, List, [], ◌∷◌, length, map, Option, Some}
use Rattle.std.proofs.Common.{None, refl, sym, subst, ◌∙◌, ap, arith}
use Rattle.std.specs.Prelude.{IfSome, is_some, nat_lt, not, unwrap_or}
use Rattle.std.specs.List.{list_all}
use Rattle.std.specs.Option.{option_map}
use Rattle.std.proofs.lemmas.Bool.{eq-eqb, eqb-true, ltb-true}
use Rattle.std.proofs.lemmas.List.{length-map}
use Rattle.mysql_buf.specs.Bytes.{AreBytes}
use Rattle.mysql_const.specs.BulkIndicators.{bulk_indicator_named}
use Rattle.mysql_const.specs.FlagSets.{contains}
use Rattle.mysql_const.specs.declared.bulk.MariadbBulkIndicator.{MariadbBulkIndicator}
use Rattle.mysql_const.specs.declared.bulk.MariadbBulkIndicator.TheVariants.{BULK_INDICATOR_NONE, BULK_INDICATOR_NULL}
use Rattle.mysql_const.specs.declared.bulk.MariadbBulkIndicator.TheVariants.{BULK_INDICATOR_DEFAULT}
use Rattle.mysql_const.specs.declared.bulk.MariadbBulkIndicator.TheVariants.{BULK_INDICATOR_IGNORE}
use Rattle.mysql_cells.specs.TypedCells.{ReadCellsAreWritten}
use Rattle.mysql_cells.specs.declared.value.Value.{Value}
use Rattle.mysql_cells.specs.declared.value.Value.TheVariants.{NULL, Bytes, Int, UInt, Float, Double, Date, Time}
use Rattle.mysql_executions.specs.declared.bulk.BulkValue.{BulkValue}
use Rattle.mysql_executions.specs.declared.bulk.BulkValue.TheVariants as bulk
use Rattle.mysql_executions.specs.declared.types.BoundType.{BoundType}
use Rattle.mysql_executions.specs.declared.types.ParameterType.{ParameterType}
use Rattle.mysql_executions.specs.Bulks.{BulkExecution, BulkHead, are_bulk_flags, bulk_execution_at, bulk_head}
use Rattle.mysql_executions.specs.Bulks.{bulk_value_at, indicated_at, row_at, rows_at, send_types_to_server}
use Rattle.mysql_executions.specs.Bulks.{send_unit_results, with_row}
use Rattle.mysql_executions.specs.Executions.{typed_value_at}
use Rattle.mysql_executions.specs.Fields.{◌>>=◌, ◌>>◌, each_at, must, number_at}
use Rattle.mysql_executions.specs.InForce.{InForce, is_waiting, types_that_count}
use Rattle.mysql_executions.specs.Types.{has_bulk_operations, own_types_at, unnamed}
use Rattle.mysql_execution_writer.specs.Bulks.{bulk_as_read, bulk_value_as_read, bulk_value_bytes, can_have_bulk_types}
use Rattle.mysql_execution_writer.specs.Bulks.{can_put_bulk, is_row, told_cell}
use Rattle.mysql_execution_writer.specs.Cells.{parameter_cell}
use Rattle.mysql_execution_writer.specs.Laws.{ReadBulksAreWritten}
use Rattle.mysql_execution_writer.proofs.ReadExecutions.{types_are}
use Rattle.mysql_execution_writer.proofs.ReadTypes.{and_both, bind_some, first_left, must_then, own_left, same_first}
use Rattle.mysql_execution_writer.proofs.ReadTypes.{same_left, some_is}
use Rattle.mysql_execution_writer.proofs.ReadValues.{typed_left}
use Rattle.mysql_execution_writer.proofs.RowsFewer.{no_row_behind}

-- ---- a parameter in a row

record IsTold (t : ParameterType) (value : BulkValue) (rest : List ℕ) : Type 0 where
  can : is_some (bulk_value_bytes t value) ≡ true
  same : bulk_value_as_read value ≡ value
  left : AreBytes rest

told_is : (o : Option (List ℕ)) → is_some o ≡ true → is_some (told_cell o) ≡ true
told_is (Some x) e = refl
told_is None e = absurd cc

value_told : (t : ParameterType) (value : Value) → is_some (parameter_cell t value) ≡ true →
    is_some (bulk_value_bytes t (bulk.Value value)) ≡ true
value_told t NULL e = refl
value_told t (Bytes bytes) e = told_is (parameter_cell t (Bytes bytes)) e
value_told t (Int z) e = told_is (parameter_cell t (Int z)) e
value_told t (UInt n) e = told_is (parameter_cell t (UInt n)) e
value_told t (Float bits) e = told_is (parameter_cell t (Float bits)) e
value_told t (Double bits) e = told_is (parameter_cell t (Double bits)) e
value_told t (Date year month day hour minute second micros) e =
    told_is (parameter_cell t (Date year month day hour minute second micros)) e
value_told t (Time negative days hours minutes seconds micros) e =
    told_is (parameter_cell t (Time negative days hours minutes seconds micros)) e

abbrev pair : BulkValue → List ℕ → BulkValue × List ℕ
pair value rest = (value, rest)

plain : (t : ParameterType) (value wanted : BulkValue) (bytes rest : List ℕ) → AreBytes bytes →
    is_some (bulk_value_bytes t value) ≡ true → bulk_value_as_read value ≡ value →
    Some (pair value bytes) ≡ Some (pair wanted rest) → IsTold t wanted rest
plain t value wanted bytes rest are can same e =
    subst (λ (v : BulkValue). IsTold t v rest) (same_first (pair value bytes) (pair wanted rest) e)
    (record {
      can = can;
      same = same;
      left =
          subst AreBytes (same_left (pair value bytes) (pair wanted rest) e) are;
    })

module _ (written : ReadCellsAreWritten) where
  indicated_left : (indicator : MariadbBulkIndicator) (t : ParameterType) (bytes rest : List ℕ)
      (value : BulkValue) → AreBytes bytes → indicated_at indicator t bytes ≡ Some (value, rest) →
      IsTold t value rest
  indicated_left BULK_INDICATOR_NONE t bytes rest value are e =
      let a = bind_some (typed_value_at t bytes) (λ v. Some (bulk.Value v.0, v.1)) (value, rest) e in
      let v = typed_left written t bytes a.0.1 a.0.0 are a.1 in
      plain t (bulk.Value a.0.0) value a.0.1 rest v.left (value_told t a.0.0 v.cell)
      (ap (λ (x : Value). bulk.Value x) v.same) a.2
  indicated_left BULK_INDICATOR_NULL t bytes rest value are e =
      plain t (bulk.Value NULL) value bytes rest are refl refl e
  indicated_left BULK_INDICATOR_DEFAULT t bytes rest value are e = plain t bulk.Default value bytes rest are refl refl e
  indicated_left BULK_INDICATOR_IGNORE t bytes rest value are e = plain t bulk.Ignore value bytes rest are refl refl e

  told_left : (t : ParameterType) (bytes rest : List ℕ) (value : BulkValue) → AreBytes bytes →
      bulk_value_at t bytes ≡ Some (value, rest) → IsTold t value rest
  unfolding bulk_value_at
  told_left t bytes rest value are e =
      let a = bind_some (number_at 1 bytes)
      (λ number. bulk_indicator_named number.0 >>= λ indicator. indicated_at indicator t
      number.1) (value, rest) e in
      let b = bind_some (bulk_indicator_named a.0.0) (λ indicator. indicated_at indicator t a.0.1) (value, rest) a.2 in
      indicated_left b.0 t a.0.1 rest value (first_left 1 _ bytes a.0 are a.1) b.2

  -- ---- rows

  record IsRow (types : List ParameterType) (row : List BulkValue) (rest : List ℕ) : Type 0 where
    can : is_row types row ≡ true
    same : map bulk_value_as_read row ≡ row
    left : AreBytes rest

  row_left : (place : ℕ) (types : List ParameterType) (bytes rest : List ℕ) (row : List BulkValue) →
      AreBytes bytes → each_at (λ place t b. bulk_value_at t b) place types bytes ≡
      Some (row, rest) → IsRow types row rest
  unfolding each_at is_row
  row_left place [] bytes rest row are e =
      subst (λ (r : List BulkValue). IsRow [] r rest) (same_first ([], bytes) (row, rest) e)
      (record {
        can = refl;
        same = refl;
        left =
            subst AreBytes (same_left ([], bytes) (row, rest) e) are;
      })
  row_left place (t ∷ types) bytes rest row are e =
      let read = λ (b : List ℕ). each_at (λ place t b. bulk_value_at t b) (place + 1) types b in
      let a = bind_some (bulk_value_at t bytes)
      (λ first. read first.1 >>= λ others. Some (first.0 ∷ others.0, others.1)) (row, rest) e in
      let b = bind_some (read a.0.1) (λ others. Some (a.0.0 ∷ others.0, others.1)) (row, rest) a.2 in
      let own = told_left t bytes a.0.1 a.0.0 are a.1 in
      let later = row_left (place + 1) types a.0.1 b.0.1 b.0.0 own.left b.1 in
      subst (λ (r : List BulkValue). IsRow (t ∷ types) r rest)
      (same_first (a.0.0 ∷ b.0.0, b.0.1) (row, rest) b.2) (record {
        can = and_both (is_some (bulk_value_bytes t a.0.0)) (is_row types b.0.0) own.can later.can;
        same = λ i. own.same i ∷ later.same i;
        left = subst AreBytes (same_left (a.0.0 ∷ b.0.0, b.0.1) (row, rest) b.2) later.left;
      })

  record AreRows (types : List ParameterType) (rows : List (List BulkValue)) : Type 0 where
    can : list_all (is_row types) rows ≡ true
    same : map (λ row. map bulk_value_as_read row) rows ≡ rows

  rows_by : (most : ℕ) (types : List ParameterType) (bytes : List ℕ)
      (read : Option (List BulkValue × List ℕ)) → row_at types bytes ≡ read → AreBytes bytes
      → ((after : List ℕ) → AreBytes after → AreRows types (rows_at most types after).0) →
      AreRows types (unwrap_or (option_map
      (λ first. with_row first.0 (rows_at most types first.1)) read) ([], bytes)).0
  rows_by most types bytes None e are later = record { can = refl; same = refl }
  rows_by most types bytes (Some first) e are later =
      let own = row_left 0 types bytes first.1 first.0 are e in
      let others = later first.1 own.left in
      record {
        can = and_both (is_row types first.0)
            (list_all (is_row types) (rows_at most types first.1).0) own.can others.can;
        same = λ i. own.same i ∷ others.same i;
      }

  rows_left : (most : ℕ) (types : List ParameterType) (bytes : List ℕ) → AreBytes bytes →
      AreRows types (rows_at most types bytes).0
  unfolding rows_at
  rows_left zero types bytes are = record { can = refl; same = refl }
  rows_left (suc most) types bytes are = rows_by most types bytes (row_at types bytes) refl are (rows_left most types)

types_can : (s : InForce) (own : Option (List BoundType)) (types : List ParameterType) →
    types_that_count s own ≡ Some types → IfSome own (λ ts. length ts ≡ s.count) →
    can_have_bulk_types s own ≡ true
types_can s (Some own) types e many = eq-eqb (length own) s.count many
types_can s None types e many = (must_then (length s.types == s.count) (Some s.types) types e).0

types_many : (s : InForce) (own : Option (List BoundType)) (types : List ParameterType) →
    types_that_count s own ≡ Some types → IfSome own (λ ts. length ts ≡ s.count) → length types ≡
    s.count
types_many s (Some own) types e many = sym (ap length (some_is (unnamed own) types e)) ∙
    length-map own (λ t. t.parameter_type) ∙ many
types_many s None types e many =
    let m = must_then (length s.types == s.count) (Some s.types) types e in
    sym (ap length (some_is s.types types m.1)) ∙ eqb-true (length s.types) s.count m.0

abbrev bulk_by : BulkHead → Option (List BoundType) → List (List BulkValue) × List ℕ → BulkExecution
bulk_by head own rows = record {
  statement = head.statement;
  unit_results =
      contains head.flags send_unit_results;
  types = own;
  rows = rows.0;
  rest = rows.1;
}

abbrev head_by : ℕ → ℕ × List ℕ → Option BulkHead
head_by statement flags = Some (record { statement = statement; flags = flags.0; rest = flags.1 })

abbrev some_bulk : BulkExecution → Option BulkExecution
some_bulk e = Some e

head_left : (body : List ℕ) (head : BulkHead) → AreBytes body → bulk_head body ≡ Some head → AreBytes head.rest
unfolding bulk_head
head_left body head are e =
    let a = bind_some (number_at 4 body)
    (λ statement. number_at 2 statement.1 >>= λ flags. head_by statement.0 flags) head e in
    let b = bind_some (number_at 2 a.0.1) (λ flags. head_by a.0.0 flags) head a.2 in
    subst (λ (h : BulkHead). AreBytes h.rest)
    (some_is (record { statement = a.0.0; flags = b.0.0; rest = b.0.1 }) head b.2)
    (first_left 2 _ a.0.1 b.0 (first_left 4 _ body a.0 are a.1) b.1)

pub read_bulks_are_written : ReadCellsAreWritten → ReadBulksAreWritten
unfolding bulk_execution_at can_put_bulk
read_bulks_are_written written c s body e are read =
    let made = λ (head : BulkHead) (own : Option (List BoundType)) (rows : List (List BulkValue) ×
    List ℕ). must (nat_lt 0 (length rows.0)) >> some_bulk (bulk_by head own rows) in
    let b1 = must_then (has_bulk_operations c) _ e read in
    let b2 = must_then (not s.broken) _ e b1.1 in
    let b3 = must_then (not (is_waiting s)) _ e b2.1 in
    let b4 = must_then (nat_lt 0 s.count) _ e b3.1 in
    let h = bind_some (bulk_head body)
    (λ head. must (are_bulk_flags head.flags) >>
    (own_types_at (contains head.flags send_types_to_server) false s.count head.rest >>= λ own.
    types_that_count s own.0 >>= λ types.
    made head own.0 (rows_at (length own.1) types own.1))) e b4.1 in
    let f = must_then (are_bulk_flags h.0.flags)
    (own_types_at (contains h.0.flags send_types_to_server) false s.count h.0.rest >>= λ own.
    types_that_count s own.0 >>= λ types.
    made h.0 own.0 (rows_at (length own.1) types own.1)) e h.2 in
    let o = bind_some (own_types_at (contains h.0.flags send_types_to_server) false s.count
    h.0.rest) (λ own. types_that_count s own.0 >>= λ types.
    made h.0 own.0 (rows_at (length own.1) types own.1)) e f.1 in
    let t = bind_some (types_that_count s o.0.0) (λ types. made h.0 o.0.0 (rows_at (length o.0.1) types o.0.1)) e o.2 in
    let r = rows_at (length o.0.1) t.0 o.0.1 in
    let n = must_then (nat_lt 0 (length r.0)) (some_bulk (bulk_by h.0 o.0.0 r)) e t.2 in
    let own = own_left (contains h.0.flags send_types_to_server) false s.count h.0.rest o.0
    (head_left body h.0 are h.1) o.1 in
    let rows = rows_left written (length o.0.1) t.0 o.0.1 own.left in
    let types = types_are s o.0.0 t.0 t.1 in
    let some : 0 < length t.0 = omega (arith, types_many s o.0.0 t.0 t.1 own.count, ltb-true 0 s.count b4.0) in
    let none : not (is_some (row_at t.0 r.1)) ≡ true =
    ap not (no_row_behind t.0 some (length o.0.1) o.0.1 (omega arith)) in
    subst (λ (e : BulkExecution). (can_put_bulk c s e ≡ true) × (bulk_as_read e ≡ e))
    (some_is (bulk_by h.0 o.0.0 r) e n.1) (
      and_both _ _ (and_both _ _
          (and_both _ _ (and_both _ _
          (and_both _ _ (and_both _ _ (and_both _ _ (and_both _ _ b1.0 b2.0) b3.0) b4.0)
          (types_can s o.0.0 t.0 t.1 own.count)) own.names) n.0)
          (ap (λ (ts : List ParameterType). list_all (is_row ts) r.0) (sym types) ∙ rows.can))
          (ap (λ (ts : List ParameterType). not (is_some (row_at ts r.1))) (sym types) ∙ none),
      λ i. record (bulk_by h.0 o.0.0 r) { rows = rows.same i },
    )
