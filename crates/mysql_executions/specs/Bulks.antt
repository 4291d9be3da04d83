-- Bulk executions of a prepared statement as they are read. MariaDB: Client/Server Protocol,
-- "COM_STMT_BULK_EXECUTE". A body is what stands behind the command's first byte; x.0 is what was
-- read and x.1 the bytes left.
use Rattle.std.specs.Prelude.{ℕ, zero, suc, ◌+◌, Bool, false, ◌==◌, ◌||◌, not, List, [], ◌∷◌, length, nat_lt, Option}
use Rattle.std.specs.Prelude.{Some, unwrap_or}
use Rattle.std.specs.Option.{option_map}
use Rattle.mysql_cells.specs.declared.value.Value.TheVariants.{NULL}
use Rattle.mysql_const.specs.BulkIndicators.{bulk_indicator_named}
use Rattle.mysql_const.specs.FlagSets.{contains}
use Rattle.mysql_const.specs.declared.bulk.MariadbBulkIndicator.{MariadbBulkIndicator}
use Rattle.mysql_const.specs.declared.bulk.MariadbBulkIndicator.TheVariants.{BULK_INDICATOR_NONE, BULK_INDICATOR_NULL}
use Rattle.mysql_const.specs.declared.bulk.MariadbBulkIndicator.TheVariants.{BULK_INDICATOR_DEFAULT}
use Rattle.mysql_const.specs.declared.bulk.MariadbBulkIndicator.TheVariants.{BULK_INDICATOR_IGNORE}
use Rattle.mysql_const.specs.declared.capabilities.Capabilities.{Capabilities}
use Rattle.mysql_executions.specs.declared.bulk.BulkValue.{BulkValue}
use Rattle.mysql_executions.specs.declared.bulk.BulkValue.TheVariants as bulk
use Rattle.mysql_executions.specs.declared.types.BoundType.{BoundType}
use Rattle.mysql_executions.specs.declared.types.ParameterType.{ParameterType}
use Rattle.mysql_executions.specs.Executions.{typed_value_at}
use Rattle.mysql_executions.specs.Fields.{◌>>=◌, ◌>>◌, each_at, must, number_at}
use Rattle.mysql_executions.specs.InForce.{InForce, is_waiting, types_that_count}
use Rattle.mysql_executions.specs.Types.{has_bulk_operations, own_types_at}

-- SEND_UNIT_RESULTS asks for a result for each row; SEND_TYPES_TO_SERVER says that types follow
abbrev pub send_unit_results : ℕ
send_unit_results = 0x40

abbrev pub send_types_to_server : ℕ
send_types_to_server = 0x80

-- none of the two, either or both, and no other
abbrev pub are_bulk_flags : ℕ → Bool
are_bulk_flags flags =
    flags == 0 || flags == send_unit_results || flags == send_types_to_server ||
    flags == send_unit_results + send_types_to_server

-- what stands before a bulk's types
pub record BulkHead : Type 0 where
  pub statement : ℕ
  pub flags : ℕ
  pub rest : List ℕ

unfoldable pub bulk_head : List ℕ → Option BulkHead
bulk_head body = do
  statement ← number_at 4 body
  flags ← number_at 2 statement.1
  Some (record { statement = statement.0; flags = flags.0; rest = flags.1 })

-- what an indicator says of a parameter: a value whose cell follows, NULL, its default, or that it stays as it is
abbrev pub indicated_at : MariadbBulkIndicator → ParameterType → List ℕ → Option (BulkValue × List ℕ)
indicated_at BULK_INDICATOR_NONE t bytes = do
  value ← typed_value_at t bytes
  Some (bulk.Value value.0, value.1)
indicated_at BULK_INDICATOR_NULL t bytes = Some (bulk.Value NULL, bytes)
indicated_at BULK_INDICATOR_DEFAULT t bytes = Some (bulk.Default, bytes)
indicated_at BULK_INDICATOR_IGNORE t bytes = Some (bulk.Ignore, bytes)

-- a parameter in a row
unfoldable pub bulk_value_at : ParameterType → List ℕ → Option (BulkValue × List ℕ)
bulk_value_at t bytes = do
  number ← number_at 1 bytes
  indicator ← bulk_indicator_named number.0
  indicated_at indicator t number.1

-- a row: a parameter for each type
abbrev pub row_at : List ParameterType → List ℕ → Option (List BulkValue × List ℕ)
row_at types bytes = each_at (λ place t b. bulk_value_at t b) 0 types bytes

-- a row before others
abbrev pub with_row : List BulkValue → List (List BulkValue) × List ℕ → List (List BulkValue) × List ℕ
with_row first others = (first ∷ others.0, others.1)

-- rows, at most so many, up to the first that can't be read, and the bytes from that one on
unfoldable pub rows_at : ℕ → List ParameterType → List ℕ → List (List BulkValue) × List ℕ
rows_at zero types bytes = ([], bytes)
rows_at (suc most) types bytes =
    unwrap_or (option_map (λ first. with_row first.0 (rows_at most types first.1)) (row_at types bytes)) ([], bytes)

-- a bulk execution: the statement's id, whether a result for each row is asked for, the types of
-- the parameters where it carries them, what the parameters hold in each row, and the bytes from the
-- first row on that can't be read: servers may execute the rows before them
pub record BulkExecution : Type 0 where
  pub statement : ℕ
  pub unit_results : Bool
  pub types : Option (List BoundType)
  pub rows : List (List BulkValue)
  pub rest : List ℕ

-- A bulk execution by what is in force, from its front: of a statement with parameters, for which no
-- long data waits, and at least one row, each of which takes a byte or more. Of a broken statement
-- there is none.
unfoldable pub bulk_execution_at : Capabilities → InForce → List ℕ → Option BulkExecution
bulk_execution_at capabilities s body = do
  must (has_bulk_operations capabilities)
  must (not s.broken)
  must (not (is_waiting s))
  must (nat_lt 0 s.count)
  head ← bulk_head body
  must (are_bulk_flags head.flags)
  own ← own_types_at (contains head.flags send_types_to_server) false s.count head.rest
  types ← types_that_count s own.0
  rows ← Some (rows_at (length own.1) types own.1)
  must (nat_lt 0 (length rows.0))
  Some (record {
    statement = head.statement;
    unit_results = contains head.flags send_unit_results;
    types = own.0;
    rows = rows.0;
    rest = rows.1;
  })
