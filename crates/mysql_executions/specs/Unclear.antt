-- Values that servers read each their way: no client library writes one so. MySQL: Client/Server Protocol,
-- "Binary Protocol Value", "Protocol::LengthEncodedInteger", "COM_STMT_SEND_LONG_DATA"; MariaDB:
-- Client/Server Protocol, "COM_STMT_EXECUTE" ("Binary Parameter Encoding"), "COM_STMT_BULK_EXECUTE".
use Rattle.std.specs.Prelude.{ℕ, ◌+◌, ◌-◌, Bool, true, false, not, ◌==◌, ◌&&◌, ◌||◌, if◌then◌else◌, List, [], ◌∷◌, ◌++◌}
use Rattle.std.specs.Prelude.{drop, take, length, nat_le, slice_get, unwrap_or, Option, Some, None, is_some}
use Rattle.std.specs.List.{flat_map, list_any}
use Rattle.std.specs.Option.{option_and_then}
use Rattle.mysql_cells.specs.Cells.{form}
use Rattle.mysql_cells.specs.Values.{is_null}
use Rattle.mysql_cells.specs.declared.cell_form.CellForm.{CellForm}
use Rattle.mysql_cells.specs.declared.cell_form.CellForm.TheVariants.{Counted, DateAndTime, Duration}
use Rattle.mysql_const.specs.ColumnTypes.{column_type_number}
use Rattle.mysql_const.specs.FlagSets.{contains}
use Rattle.mysql_const.specs.declared.capabilities.Capabilities.{Capabilities}
use Rattle.mysql_const.specs.declared.column_type.ColumnType.{ColumnType}
use Rattle.mysql_const.specs.declared.column_type.ColumnType.TheVariants.{MYSQL_TYPE_BIT, MYSQL_TYPE_GEOMETRY}
use Rattle.mysql_const.specs.declared.column_type.ColumnType.TheVariants.{MYSQL_TYPE_DATE}
use Rattle.mysql_const.specs.declared.column_type.ColumnType.TheVariants.{MYSQL_TYPE_INT24, MYSQL_TYPE_YEAR}
use Rattle.mysql_field_lists.specs.NullBitmap.{is_null_at}
use Rattle.mysql_executions.specs.declared.bulk.BulkValue.{BulkValue}
use Rattle.mysql_executions.specs.declared.bulk.BulkValue.TheVariants as bulk
use Rattle.mysql_executions.specs.declared.types.ParameterType.{ParameterType}
use Rattle.mysql_executions.specs.Bulks.{bulk_head, rows_at, send_types_to_server}
use Rattle.mysql_executions.specs.Executions.{readable_head, typed_value_at}
use Rattle.mysql_executions.specs.Fields.{◌>>=◌}
use Rattle.mysql_executions.specs.InForce.{InForce, data_for, types_that_count}
use Rattle.mysql_executions.specs.Types.{has_query_attributes, own_types_at, types_at, unnamed}

-- CELLS

-- types of which some servers take no byte: INT24 (9), YEAR (13), BIT (16), GEOMETRY (255)
abbrev pub is_unclear_type : ColumnType → Bool
is_unclear_type MYSQL_TYPE_INT24 = true
is_unclear_type MYSQL_TYPE_YEAR = true
is_unclear_type MYSQL_TYPE_BIT = true
is_unclear_type MYSQL_TYPE_GEOMETRY = true
is_unclear_type column_type = false

-- a length that begins with fb or ff, which begin none
abbrev pub is_odd_length : List ℕ → Bool
is_odd_length [] = false
is_odd_length (b ∷ bytes) = b == 0xfb || b == 0xff

-- a date of another length than 0, 4, 7 and 11
abbrev pub is_odd_date : List ℕ → Bool
is_odd_date [] = false
is_odd_date (size ∷ bytes) = not (size == 0 || size == 4 || size == 7 || size == 11)

-- a sign that is neither 0 nor 1
abbrev pub is_odd_sign : List ℕ → Bool
is_odd_sign [] = false
is_odd_sign (b ∷ bytes) = not (nat_le b 1)

-- a duration of another length than 0, 8 and 12, or with such a sign
abbrev pub is_odd_duration : List ℕ → Bool
is_odd_duration [] = false
is_odd_duration (size ∷ bytes) = not (size == 0) && (not (size == 8 || size == 12) || is_odd_sign bytes)

abbrev pub is_odd_cell : CellForm → List ℕ → Bool
is_odd_cell Counted bytes = is_odd_length bytes
is_odd_cell DateAndTime bytes = is_odd_date bytes
is_odd_cell Duration bytes = is_odd_duration bytes
is_odd_cell cell_form bytes = false

-- the type of which some servers take no time of day: DATE (10)
abbrev pub is_dated : ColumnType → Bool
is_dated MYSQL_TYPE_DATE = true
is_dated column_type = false

-- a date with a time of day that isn't all zeros
abbrev pub has_time_of_day : List ℕ → Bool
has_time_of_day [] = false
has_time_of_day (size ∷ bytes) = list_any (λ b. not (b == 0)) (drop 4 (take size bytes))

-- the cell that stands first, by its type
abbrev pub is_unclear_cell : ParameterType → List ℕ → Bool
is_unclear_cell t bytes =
    is_unclear_type t.column_type
    || is_odd_cell (form t.column_type) bytes
    || (is_dated t.column_type && has_time_of_day bytes)

-- The first unclear cell of those that stand one after another from this place on, each behind so many
-- bytes, and the bytes from it on. A place that has none has no cell. Where a cell is unclear, so are
-- those behind it, since servers differ in where they begin.
unfoldable pub first_unclear : (before place : ℕ) → List (Option ParameterType) → List ℕ → Option (ℕ × List ℕ)
first_unclear before place [] bytes = None
first_unclear before place (None ∷ cells) bytes = first_unclear before (place + 1) cells (drop before bytes)
first_unclear before place (Some t ∷ cells) bytes =
    if is_unclear_cell t (drop before bytes) then Some (place, drop before bytes)
    else option_and_then (λ x. first_unclear before (place + 1) cells x.1) (typed_value_at t (drop before bytes))

-- EXECUTIONS

-- the cells of an execution's values from this place on: a parameter that is NULL, or for which long data
-- waits, has none
unfoldable pub cells_from : (waiting : List (ℕ × List ℕ)) → (nulls : List ℕ) → (place : ℕ) →
    List ParameterType → List (Option ParameterType)
cells_from waiting nulls place [] = []
cells_from waiting nulls place (t ∷ types) =
    (if is_some (data_for waiting place) || is_null_at 0 nulls place then None else Some t)
    ∷ cells_from waiting nulls (place + 1) types

-- the same type, of the same sign
abbrev pub is_same_type : ParameterType → ParameterType → Bool
is_same_type one other =
    (column_type_number one.column_type == column_type_number other.column_type)
    && (if one.unsigned then other.unsigned else not other.unsigned)

-- of each place from this one on that had a type, whether long data waits for it that some servers take
-- by that type, where another one counts
unfoldable pub marks_from : (waiting : List (ℕ × List ℕ)) → (place : ℕ) →
    (earlier types : List ParameterType) → List Bool
marks_from waiting place [] types = []
marks_from waiting place (t ∷ earlier) [] = []
marks_from waiting place (t ∷ earlier) (u ∷ types) =
    (is_some (data_for waiting place) && not (is_same_type t u)) ∷ marks_from waiting (place + 1) earlier types

-- the same of an execution's parameters, where long data waits for any
abbrev pub unclear_data : (waiting : List (ℕ × List ℕ)) → (earlier types : List ParameterType) → List Bool
unclear_data [] earlier types = []
unclear_data (sent ∷ waiting) earlier types = marks_from (sent ∷ waiting) 0 earlier types

-- what of an execution is unclear: the first unclear cell, by how many values stand before it, with the
-- bytes from it on; and of the first places whether their long data is
pub record UnclearValues : Type 0 where
  pub cells : Option (ℕ × List ℕ)
  pub long_data : List Bool

unfoldable pub unclear_at : Capabilities → InForce → List ℕ → Option UnclearValues
unclear_at capabilities s body = do
  head ← readable_head capabilities s body
  own ← own_types_at head.binding.bound (has_query_attributes capabilities) s.count head.binding.rest
  types ← types_that_count s own.0
  further ← types_at (has_query_attributes capabilities) (head.count - s.count) own.1
  Some (record {
    cells = first_unclear 0 0 (cells_from s.long_data head.binding.nulls 0 (types ++ unnamed further.0)) further.1;
    long_data = unclear_data s.long_data s.types types;
  })

-- a place from which cells are unclear stands at this one, or before it
abbrev pub is_from : Option (ℕ × List ℕ) → (place : ℕ) → Bool
is_from None place = false
is_from (Some first) place = nat_le first.0 place

-- whether the value at a place is unclear
abbrev pub is_unclear_at : UnclearValues → (place : ℕ) → Bool
is_unclear_at u place = is_from u.cells place || unwrap_or (slice_get u.long_data place) false

-- BULK EXECUTIONS

-- the cells of a row, each behind its indicator: of a value that isn't NULL
abbrev pub bulk_cell : ParameterType → BulkValue → Option ParameterType
bulk_cell t (bulk.Value value) = if is_null value then None else Some t
bulk_cell t bulk.Default = None
bulk_cell t bulk.Ignore = None

unfoldable pub cells_in_row : List ParameterType → List BulkValue → List (Option ParameterType)
cells_in_row [] row = []
cells_in_row (t ∷ types) [] = []
cells_in_row (t ∷ types) (value ∷ row) = bulk_cell t value ∷ cells_in_row types row

-- the first unclear cell of a bulk execution, by how many values stand before it, row by row
unfoldable pub unclear_bulk_at : InForce → List ℕ → Option (ℕ × List ℕ)
unclear_bulk_at s body = do
  head ← bulk_head body
  own ← own_types_at (contains head.flags send_types_to_server) false s.count head.rest
  types ← types_that_count s own.0
  first_unclear 1 0 (flat_map (cells_in_row types) (rows_at (length own.1) types own.1).0) own.1
