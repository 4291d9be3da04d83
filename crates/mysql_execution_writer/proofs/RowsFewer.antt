-- A row takes a byte or more.
use Rattle.std.proofs.Common.{◌≡◌, ℕ, zero, suc, ◌+◌, ◌<◌, ◌≤◌, false, List, [], ◌∷◌, length, Option, Some, None, refl}
use Rattle.std.proofs.Common.{ap, arith, length-drop}
use Rattle.std.specs.Prelude.{is_some, unwrap_or}
use Rattle.std.specs.Option.{option_map}
use Rattle.mysql_buf.specs.FirstBytes.{first-some}
use Rattle.mysql_const.specs.BulkIndicators.{bulk_indicator_named}
use Rattle.mysql_const.specs.declared.bulk.MariadbBulkIndicator.{MariadbBulkIndicator}
use Rattle.mysql_const.specs.declared.bulk.MariadbBulkIndicator.TheVariants.{BULK_INDICATOR_NONE, BULK_INDICATOR_NULL}
use Rattle.mysql_const.specs.declared.bulk.MariadbBulkIndicator.TheVariants.{BULK_INDICATOR_DEFAULT}
use Rattle.mysql_const.specs.declared.bulk.MariadbBulkIndicator.TheVariants.{BULK_INDICATOR_IGNORE}
use Rattle.mysql_executions.specs.declared.bulk.BulkValue.{BulkValue}
use Rattle.mysql_executions.specs.declared.bulk.BulkValue.TheVariants as bulk
use Rattle.mysql_executions.specs.declared.types.ParameterType.{ParameterType}
use Rattle.mysql_cells.specs.declared.value.Value.TheVariants.{NULL}
use Rattle.mysql_executions.specs.Bulks.{bulk_value_at, indicated_at, row_at, rows_at, with_row}
use Rattle.mysql_executions.specs.Executions.{typed_value_at}
use Rattle.mysql_executions.specs.Fields.{◌>>=◌, each_at, number_at}
use Rattle.mysql_execution_writer.proofs.CellsFewer.{typed_fewer}
use Rattle.mysql_execution_writer.proofs.ReadTypes.{bind_some, same_left}

indicated_fewer : (indicator : MariadbBulkIndicator) (t : ParameterType) (bytes rest : List ℕ)
    (value : BulkValue) → indicated_at indicator t bytes ≡ Some (value, rest) →
    length rest ≤ length bytes
indicated_fewer BULK_INDICATOR_NONE t bytes rest value e =
    let a = bind_some (typed_value_at t bytes) (λ v. Some (bulk.Value v.0, v.1)) (value, rest) e in
    let is = same_left (bulk.Value a.0.0, a.0.1) (value, rest) a.2 in
    omega (arith, ap length is, typed_fewer t bytes a.0.1 a.0.0 a.1)
indicated_fewer BULK_INDICATOR_NULL t bytes rest value e =
    omega (arith, ap length (same_left (bulk.Value NULL, bytes) (value, rest) e))
indicated_fewer BULK_INDICATOR_DEFAULT t bytes rest value e =
    omega (arith, ap length (same_left (bulk.Default, bytes) (value, rest) e))
indicated_fewer BULK_INDICATOR_IGNORE t bytes rest value e =
    omega (arith, ap length (same_left (bulk.Ignore, bytes) (value, rest) e))

bulk_value_fewer : (t : ParameterType) (bytes rest : List ℕ) (value : BulkValue) →
    bulk_value_at t bytes ≡ Some (value, rest) → length rest < length bytes
unfolding bulk_value_at
bulk_value_fewer t bytes rest value e =
    let a = bind_some (number_at 1 bytes)
    (λ number. bulk_indicator_named number.0 >>= λ indicator. indicated_at indicator t number.1)
    (value, rest) e in
    let b = bind_some (bulk_indicator_named a.0.0) (λ indicator. indicated_at indicator t a.0.1) (value, rest) a.2 in
    let here = first-some 1 _ bytes a.0 a.1 in
    omega (arith, indicated_fewer b.0 t a.0.1 rest value b.2, ap (λ p. length p.1) here.1, here.0, length-drop 1 bytes)

each_fewer : (place : ℕ) (types : List ParameterType) (bytes rest : List ℕ) (row : List BulkValue) →
    each_at (λ place t b. bulk_value_at t b) place types bytes ≡ Some (row, rest) →
    length rest + length types ≤ length bytes
unfolding each_at
each_fewer place [] bytes rest row e = omega (arith, ap length (same_left ([], bytes) (row, rest) e))
each_fewer place (t ∷ types) bytes rest row e =
    let read = λ (b : List ℕ). each_at (λ place t b. bulk_value_at t b) (place + 1) types b in
    let a = bind_some (bulk_value_at t bytes)
    (λ first. read first.1 >>= λ others. Some (first.0 ∷ others.0, others.1)) (row, rest) e in
    let b = bind_some (read a.0.1) (λ others. Some (a.0.0 ∷ others.0, others.1)) (row, rest) a.2 in
    let is = same_left (a.0.0 ∷ b.0.0, b.0.1) (row, rest) b.2 in
    omega (
      arith,
      ap length is,
      bulk_value_fewer t bytes a.0.1 a.0.0 a.1,
      each_fewer (place + 1) types a.0.1 b.0.1 b.0.0 b.1,
    )

none_of_nothing : (types : List ParameterType) (bytes : List ℕ)
    (read : Option (List BulkValue × List ℕ)) → row_at types bytes ≡ read → 0 < length types →
    length bytes ≤ 0 → is_some read ≡ false
none_of_nothing types bytes None e some none = refl
none_of_nothing types bytes (Some row) e some none =
    absurd (omega (arith, each_fewer 0 types bytes row.1 row.0 e, some, none))

-- no row stands behind the rows that were read
module _ (types : List ParameterType) (some : 0 < length types) where
  behind_by : (most : ℕ) (bytes : List ℕ) (read : Option (List BulkValue × List ℕ)) →
      row_at types bytes ≡ read → length bytes ≤ suc most
      → ((after : List ℕ) → length after ≤ most → is_some (row_at types (rows_at most types after).1) ≡ false)
      → is_some (row_at types (unwrap_or
      (option_map (λ first. with_row first.0 (rows_at most types first.1)) read) ([], bytes)).1)
      ≡ false
  behind_by most bytes None e few later = ap (λ (read : Option (List BulkValue × List ℕ)). is_some read) e
  behind_by most bytes (Some row) e few later =
      later row.1 (omega (arith, each_fewer 0 types bytes row.1 row.0 e, some, few))

  pub no_row_behind : (most : ℕ) (bytes : List ℕ) → length bytes ≤ most →
      is_some (row_at types (rows_at most types bytes).1) ≡ false
  unfolding rows_at
  no_row_behind zero bytes few = none_of_nothing types bytes (row_at types bytes) refl some few
  no_row_behind (suc most) bytes few = behind_by most bytes (row_at types bytes) refl few (no_row_behind most)
