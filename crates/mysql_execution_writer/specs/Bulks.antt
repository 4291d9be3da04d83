-- Bulk executions as they are written by what is in force, and which can be. MariaDB: Client/Server
-- Protocol, "COM_STMT_BULK_EXECUTE". A body is what stands behind the command's first byte.
use Rattle.std.specs.Prelude.{ℕ, ◌+◌, ◌==◌, ◌&&◌, Bool, true, false, not, if◌then◌else◌, List, [], ◌∷◌, ◌++◌, length}
use Rattle.std.specs.Prelude.{map}
use Rattle.std.specs.Prelude.{nat_lt, Option, Some, None, is_some, unwrap_or}
use Rattle.std.specs.List.{flat_map, list_all}
use Rattle.std.specs.Option.{option_map}
use Rattle.byteorder.specs.Endian.{little_bytes}
use Rattle.mysql_cells.specs.Values.{is_null}
use Rattle.mysql_const.specs.BulkIndicators.{bulk_indicator_number}
use Rattle.mysql_const.specs.declared.bulk.MariadbBulkIndicator.{MariadbBulkIndicator}
use Rattle.mysql_const.specs.declared.bulk.MariadbBulkIndicator.TheVariants.{BULK_INDICATOR_NONE, BULK_INDICATOR_NULL}
use Rattle.mysql_const.specs.declared.bulk.MariadbBulkIndicator.TheVariants.{BULK_INDICATOR_DEFAULT}
use Rattle.mysql_const.specs.declared.bulk.MariadbBulkIndicator.TheVariants.{BULK_INDICATOR_IGNORE}
use Rattle.mysql_const.specs.declared.capabilities.Capabilities.{Capabilities}
use Rattle.mysql_executions.specs.declared.bulk.BulkValue.{BulkValue}
use Rattle.mysql_executions.specs.declared.bulk.BulkValue.TheVariants as bulk
use Rattle.mysql_executions.specs.declared.types.BoundType.{BoundType}
use Rattle.mysql_executions.specs.declared.types.ParameterType.{ParameterType}
use Rattle.mysql_executions.specs.Bulks.{BulkExecution, row_at, send_types_to_server, send_unit_results}
use Rattle.mysql_executions.specs.InForce.{InForce, is_waiting}
use Rattle.mysql_executions.specs.Types.{has_bulk_operations}
use Rattle.mysql_executions.specs.Views.{types_by}
use Rattle.mysql_execution_writer.specs.Cells.{as_read, fits_name, parameter_cell, types_bytes}

-- an indicator's byte
abbrev pub indicator_bytes : MariadbBulkIndicator → List ℕ
indicator_bytes indicator = little_bytes 1 (bulk_indicator_number indicator)

-- a value that isn't NULL: its indicator, its cell
abbrev pub told_cell : Option (List ℕ) → Option (List ℕ)
told_cell cell = option_map (λ bytes. indicator_bytes BULK_INDICATOR_NONE ++ bytes) cell

-- what a parameter holds in a row, where it can be written: an indicator, and behind that of a value its cell
abbrev pub bulk_value_bytes : ParameterType → BulkValue → Option (List ℕ)
bulk_value_bytes t (bulk.Value value) =
    if is_null value then Some (indicator_bytes BULK_INDICATOR_NULL) else told_cell (parameter_cell t value)
bulk_value_bytes t bulk.Default = Some (indicator_bytes BULK_INDICATOR_DEFAULT)
bulk_value_bytes t bulk.Ignore = Some (indicator_bytes BULK_INDICATOR_IGNORE)

-- a row
unfoldable pub row_bytes : List ParameterType → List BulkValue → List ℕ
row_bytes [] row = []
row_bytes (t ∷ types) [] = []
row_bytes (t ∷ types) (value ∷ row) = unwrap_or (bulk_value_bytes t value) [] ++ row_bytes types row

-- one for each type, and each can be written
unfoldable pub is_row : List ParameterType → List BulkValue → Bool
is_row [] [] = true
is_row [] (value ∷ row) = false
is_row (t ∷ types) [] = false
is_row (t ∷ types) (value ∷ row) = is_some (bulk_value_bytes t value) && is_row types row

-- the flags of a bulk
abbrev pub bulk_flags : BulkExecution → ℕ
bulk_flags e = (if e.unit_results then send_unit_results else 0) + (if is_some e.types then send_types_to_server else 0)

-- a bulk execution: the statement's id, the flags, the types where it carries them, the rows, and what
-- stands behind them
unfoldable pub bulk_bytes : InForce → BulkExecution → List ℕ
bulk_bytes s e =
    little_bytes 4 e.statement ++ (little_bytes 2 (bulk_flags e)
    ++ (types_bytes false (unwrap_or e.types [])
    ++ (flat_map (row_bytes (types_by e.types s.types)) e.rows ++ e.rest)))

-- types are as many as parameters; without types those in force are
abbrev pub can_have_bulk_types : InForce → Option (List BoundType) → Bool
can_have_bulk_types s (Some own) = length own == s.count
can_have_bulk_types s None = length s.types == s.count

-- A bulk execution that can be written: bulk executions are in force, the statement has parameters
-- and isn't broken, no long data waits, and types, names and rows fit, at least one row; what stands
-- behind them begins with none.
unfoldable pub can_put_bulk : Capabilities → InForce → BulkExecution → Bool
can_put_bulk capabilities s e =
    has_bulk_operations capabilities
    && not s.broken
    && not (is_waiting s)
    && nat_lt 0 s.count
    && can_have_bulk_types s e.types
    && list_all (fits_name false) (unwrap_or e.types [])
    && nat_lt 0 (length e.rows)
    && list_all (is_row (types_by e.types s.types)) e.rows
    && not (is_some (row_at (types_by e.types s.types) e.rest))

-- what a bulk execution is read as: each value as it is read
abbrev pub bulk_value_as_read : BulkValue → BulkValue
bulk_value_as_read (bulk.Value value) = bulk.Value (as_read value)
bulk_value_as_read bulk.Default = bulk.Default
bulk_value_as_read bulk.Ignore = bulk.Ignore

abbrev pub bulk_as_read : BulkExecution → BulkExecution
bulk_as_read e = record e { rows = map (λ row. map bulk_value_as_read row) e.rows }
