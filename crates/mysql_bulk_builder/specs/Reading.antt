-- Bulk executions as they are read.
-- MariaDB: Client/Server Protocol, "COM_STMT_BULK_EXECUTE".
-- A reading takes bytes from the front: x.0 is what was read and x.1 the bytes left; the first refusal counts.
use Rattle.std.specs.Prelude.{ℕ, List, [], ◌∷◌, length, map, Ok, Option, if◌then◌else◌}
use Rattle.mysql_const.specs.BulkFlags.{bulk_execute_flags}
use Rattle.mysql_const.specs.BulkIndicators.{bulk_indicator_named}
use Rattle.mysql_const.specs.ColumnTypes.{column_type_named}
use Rattle.mysql_const.specs.Commands.{command_number}
use Rattle.mysql_const.specs.ExecuteFlags.{execute_param_flags}
use Rattle.mysql_const.specs.FlagSets.{contains}
use Rattle.mysql_const.specs.declared.bulk.MariadbBulkIndicator.{MariadbBulkIndicator}
use Rattle.mysql_const.specs.declared.bulk.MariadbBulkIndicator.TheVariants.{BULK_INDICATOR_NONE, BULK_INDICATOR_NULL}
use Rattle.mysql_const.specs.declared.bulk.MariadbBulkIndicator.TheVariants.{BULK_INDICATOR_DEFAULT}
use Rattle.mysql_const.specs.declared.bulk.MariadbBulkIndicator.TheVariants.{BULK_INDICATOR_IGNORE}
use Rattle.mysql_const.specs.declared.bulk.StmtBulkExecuteFlags.{StmtBulkExecuteFlags}
use Rattle.mysql_const.specs.declared.column_flags.ColumnFlags.{ColumnFlags}
use Rattle.mysql_const.specs.declared.column_type.ColumnType.{ColumnType}
use Rattle.mysql_const.specs.declared.command.Command.TheVariants.{COM_STMT_BULK_EXECUTE}
use Rattle.mysql_const.specs.declared.execute.StmtExecuteParamFlags.{StmtExecuteParamFlags}
use Rattle.mysql_cells.specs.Cells.{column_cell_at}
use Rattle.mysql_cells.specs.declared.value.Value.{Value}
use Rattle.mysql_cells.specs.declared.value.Value.TheVariants.{NULL}
use Rattle.mysql_fields.specs.Forms.{fixed_number_at}
use Rattle.mysql_fields.specs.Wire.{Reading, from_block, ◌>>=◌}
use Rattle.mysql_field_constants.specs.Constants.{constant_at, named_at}
use Rattle.mysql_field_constants.specs.Flags.{flags_named}
use Rattle.mysql_field_lists.specs.Lists.{elements_at}
use Rattle.mysql_bulk_builder.specs.Bulk.{BulkExecution, sends_types}
use Rattle.mysql_bulk_builder.specs.declared.param_type.StmtBulkExecuteParamType.{StmtBulkExecuteParamType}
use Rattle.mysql_bulk_builder.specs.declared.param_value.StmtBulkExecuteParamValue.{StmtBulkExecuteParamValue}

-- the flags beside a type, where all bits have names
abbrev pub param_flags_named : ℕ → Option StmtExecuteParamFlags
param_flags_named bits = flags_named execute_param_flags (λ b. record { 0 = b }) bits

-- a type: its number, its flags
unfoldable pub param_type_fields_at : List ℕ → Reading StmtBulkExecuteParamType
param_type_fields_at bytes = do
  column_type ← named_at column_type_named (fixed_number_at 1) bytes
  flags ← named_at param_flags_named (fixed_number_at 1) column_type.1
  Ok (record { column_type = column_type.0; flags = flags.0 }, flags.1)

-- both bytes are asked for first
unfoldable pub param_type_at : List ℕ → Reading StmtBulkExecuteParamType
param_type_at bytes = from_block 2 param_type_fields_at bytes

-- what an indicator holds: the cell where there is a value, else NULL and no bytes
abbrev pub held_at : ColumnType × ColumnFlags → MariadbBulkIndicator → List ℕ → Reading Value
held_at column BULK_INDICATOR_NONE bytes = column_cell_at column bytes
held_at column BULK_INDICATOR_NULL bytes = Ok (NULL, bytes)
held_at column BULK_INDICATOR_DEFAULT bytes = Ok (NULL, bytes)
held_at column BULK_INDICATOR_IGNORE bytes = Ok (NULL, bytes)

-- a value by its column's type and flags: its indicator, what that holds
unfoldable pub param_value_at : ColumnType × ColumnFlags → List ℕ → Reading StmtBulkExecuteParamValue
param_value_at column bytes = do
  indicator ← named_at bulk_indicator_named (fixed_number_at 1) bytes
  held ← held_at column indicator.0 indicator.1
  Ok (record { indicator = indicator.0; value = held.0 }, held.1)

-- something for each column, one after another
unfoldable pub each_at : {C Y : Type 0} → (C → List ℕ → Reading Y) → List C → List ℕ → Reading (List Y)
each_at read_at [] bytes = Ok ([], bytes)
each_at read_at (column ∷ columns) bytes = do
  first ← read_at column bytes
  others ← each_at read_at columns first.1
  Ok (first.0 ∷ others.0, others.1)

-- the values of a row
abbrev pub param_values_at : List (ColumnType × ColumnFlags) → List ℕ → Reading (List StmtBulkExecuteParamValue)
param_values_at columns bytes = each_at param_value_at columns bytes

-- one value, without its indicator
abbrev pub bulk_value_at : ColumnType × ColumnFlags → List ℕ → Reading Value
bulk_value_at column bytes = do
  found ← param_value_at column bytes
  Ok (found.0.value, found.1)

-- a row
abbrev pub bulk_row_at : List (ColumnType × ColumnFlags) → List ℕ → Reading (List Value)
bulk_row_at columns bytes = each_at bulk_value_at columns bytes

-- the flags of a bulk execution, where all bits have names
abbrev pub bulk_flags_named : ℕ → Option StmtBulkExecuteFlags
bulk_flags_named bits = flags_named bulk_execute_flags (λ b. record { 0 = b }) bits

-- the type and the flags of a column by the type that was sent for it
abbrev pub column_by : StmtBulkExecuteParamType → ColumnType × ColumnFlags
column_by t = (t.column_type, record { 0 = if contains t.flags.0 0x80 then 0x20 else 0 })

-- the columns by which rows are read: those of the types that were sent, else those that are known
abbrev pub columns_by : ℕ → List StmtBulkExecuteParamType → List (ColumnType × ColumnFlags) →
    List (ColumnType × ColumnFlags)
columns_by flags types columns = if sends_types flags then map column_by types else columns

-- as many types as there are columns, where they are sent
abbrev pub sent_types_at : ℕ → ℕ → List ℕ → Reading (List StmtBulkExecuteParamType)
sent_types_at flags count bytes = if sends_types flags then elements_at param_type_at count bytes else Ok ([], bytes)

-- what stands before the types: the number, the statement's id, the flags
unfoldable pub bulk_head_at : List ℕ → Reading (ℕ × StmtBulkExecuteFlags)
bulk_head_at bytes = do
  header ← constant_at 1 (command_number COM_STMT_BULK_EXECUTE) bytes
  id ← fixed_number_at 4 header.1
  flags ← named_at bulk_flags_named (fixed_number_at 2) id.1
  Ok ((id.0, flags.0), flags.1)

-- a bulk execution, of whose rows the first is read
unfoldable pub bulk_execution_at : List (ColumnType × ColumnFlags) → List ℕ → Reading BulkExecution
bulk_execution_at columns bytes = do
  head ← bulk_head_at bytes
  types ← sent_types_at head.0.1.0 (length columns) head.1
  values ← param_values_at (columns_by head.0.1.0 types.0 columns) types.1
  Ok (record { stmt_id = head.0.0; flags = head.0.1.0; types = types.0; values = values.0 }, values.1)
