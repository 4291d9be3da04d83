-- Bulk executions of a prepared statement: the types of their columns, and their bytes.
-- MariaDB: Client/Server Protocol, "COM_STMT_BULK_EXECUTE".
use Rattle.std.specs.Prelude.{ℕ, ◌+◌, ◌*◌, ◌==◌, ◌&&◌, ◌||◌, Bool, true, false, if◌then◌else◌, List, [], ◌∷◌, length}
use Rattle.std.specs.Prelude.{map, get_or, Option, Some, None}
use Rattle.std.specs.List.{concat, flat_map, range_with_len}
use Rattle.byteorder.specs.Endian.{little_bytes}
use Rattle.mysql_const.specs.BulkIndicators.{bulk_indicator_number}
use Rattle.mysql_const.specs.ColumnTypes.{column_type_number}
use Rattle.mysql_const.specs.Commands.{command_number}
use Rattle.mysql_const.specs.FlagSets.{contains}
use Rattle.mysql_const.specs.declared.bulk.MariadbBulkIndicator.{MariadbBulkIndicator}
use Rattle.mysql_const.specs.declared.bulk.MariadbBulkIndicator.TheVariants.{BULK_INDICATOR_NONE, BULK_INDICATOR_NULL}
use Rattle.mysql_const.specs.declared.command.Command.TheVariants.{COM_STMT_BULK_EXECUTE}
use Rattle.mysql_cells.specs.declared.value.Value.{Value}
use Rattle.mysql_cells.specs.declared.value.Value.TheVariants.{NULL, Bytes, Int, UInt, Float, Double, Date, Time}
use Rattle.mysql_cells.specs.Cells.{cell, is_unsigned, type_number, type_of}
use Rattle.mysql_bulk_builder.specs.declared.request_error.BulkExecuteRequestError.{BulkExecuteRequestError}
use Rattle.mysql_bulk_builder.specs.declared.request_error.BulkExecuteRequestError.TheVariants.{NoParams, MixedArity}
use Rattle.mysql_bulk_builder.specs.declared.param_type.StmtBulkExecuteParamType.{StmtBulkExecuteParamType}
use Rattle.mysql_bulk_builder.specs.declared.param_value.StmtBulkExecuteParamValue.{StmtBulkExecuteParamValue}

-- VALUES

-- the indicator that a value is sent with
abbrev pub indicator_of : Value → MariadbBulkIndicator
indicator_of NULL = BULK_INDICATOR_NULL
indicator_of (Bytes bytes) = BULK_INDICATOR_NONE
indicator_of (Int z) = BULK_INDICATOR_NONE
indicator_of (UInt n) = BULK_INDICATOR_NONE
indicator_of (Float bits) = BULK_INDICATOR_NONE
indicator_of (Double bits) = BULK_INDICATOR_NONE
indicator_of (Date year month day hour minute second micros) = BULK_INDICATOR_NONE
indicator_of (Time negative days hours minutes seconds micros) = BULK_INDICATOR_NONE

-- a value as it is sent
abbrev pub param_value_of : Value → StmtBulkExecuteParamValue
param_value_of value = record { indicator = indicator_of value; value = value }

-- its bytes: the indicator, the cell
abbrev pub param_value_bytes : StmtBulkExecuteParamValue → List ℕ
param_value_bytes p = bulk_indicator_number p.indicator ∷ cell p.value

-- TYPES

-- the type that a value is sent by
abbrev pub type_of_value : Value → StmtBulkExecuteParamType
type_of_value value = record {
  column_type = type_of value;
  flags =
      record { 0 = if is_unsigned value then 0x80 else 0 };
}

-- a type's bytes: its number, its flags
abbrev pub param_type_bytes : StmtBulkExecuteParamType → List ℕ
param_type_bytes t = column_type_number t.column_type ∷ t.flags.0 ∷ []

-- the first of two values that isn't NULL
abbrev pub first_of : Value → Value → Value
first_of NULL other = other
first_of (Bytes bytes) other = Bytes bytes
first_of (Int z) other = Int z
first_of (UInt n) other = UInt n
first_of (Float bits) other = Float bits
first_of (Double bits) other = Double bits
first_of (Date year month day hour minute second micros) other = Date year month day hour minute second micros
first_of (Time negative days hours minutes seconds micros) other = Time negative days hours minutes seconds micros

-- the first value of a column that isn't NULL, or NULL
unfoldable pub first_value : List Value → Value
first_value [] = NULL
first_value (value ∷ values) = first_of value (first_value values)

-- whether a value is sent by the type of this number, without a sign
abbrev pub is_unsigned_of : ℕ → Value → Bool
is_unsigned_of number value = is_unsigned value && (type_number value == number)

unfoldable pub has_unsigned : ℕ → List Value → Bool
has_unsigned number [] = false
has_unsigned number (value ∷ values) = is_unsigned_of number value || has_unsigned number values

-- the type of a column: that of its first value that isn't NULL, without a sign where a value of that type has none
abbrev pub column_type : List Value → StmtBulkExecuteParamType
column_type column =
    let first = first_value column in
    record {
      column_type = type_of first;
      flags =
          record { 0 = if has_unsigned (type_number first) column then 0x80 else 0 };
    }

-- the type of the values so far and of one more
abbrev pub merged : StmtBulkExecuteParamType → Value → StmtBulkExecuteParamType
merged t value =
    if (column_type_number t.column_type == 6) ||
    is_unsigned_of (column_type_number t.column_type) value then type_of_value value else t

-- the values of a column, where rows of so many values lie one after another
abbrev pub column_of : ℕ → ℕ → List Value → ℕ → List Value
column_of arity count values column = map (λ row. get_or values (row * arity + column) NULL) (range_with_len 0 count)

abbrev pub column_type_of : ℕ → ℕ → List Value → ℕ → StmtBulkExecuteParamType
column_type_of arity count values column = column_type (column_of arity count values column)

-- the type of each column
abbrev pub column_types_of : ℕ → ℕ → List Value → List StmtBulkExecuteParamType
column_types_of arity count values = map (column_type_of arity count values) (range_with_len 0 arity)

-- EXECUTIONS

-- a bulk execution: the statement's id, the flags, the types of its columns, the values of its rows one after another
pub record BulkExecution : Type 0 where
  pub stmt_id : ℕ
  pub flags : ℕ
  pub types : List StmtBulkExecuteParamType
  pub values : List StmtBulkExecuteParamValue

-- whether the flags say that types are sent
abbrev pub sends_types : ℕ → Bool
sends_types flags = contains flags 0x80

-- its bytes: its number, the statement's id, the flags, the types where they are sent, the values
unfoldable pub bulk_execution : BulkExecution → List ℕ
bulk_execution e = concat (
    little_bytes 1 (command_number COM_STMT_BULK_EXECUTE) ∷ little_bytes 4 e.stmt_id ∷ little_bytes 2 e.flags
    ∷ (if sends_types e.flags then flat_map param_type_bytes e.types else []) ∷ flat_map param_value_bytes e.values ∷ []
    )

-- the values of all rows, one row after another
abbrev pub all_values : List (List Value) → List Value
all_values rows = flat_map (λ row. row) rows

-- the payload that carries rows by these types
abbrev pub bulk_command : ℕ → ℕ → List StmtBulkExecuteParamType → List (List Value) → List ℕ
bulk_command id flags types rows =
    bulk_execution (record {
      stmt_id = id;
      flags = flags;
      types = types;
      values =
          map param_value_of (all_values rows);
    })

-- how many values the first row has
abbrev pub first_length : List (List Value) → ℕ
first_length [] = 0
first_length (row ∷ rows) = length row

-- whether all rows have so many values
unfoldable pub have_length : ℕ → List (List Value) → Bool
have_length n [] = true
have_length n (row ∷ rows) = (length row == n) && have_length n rows

-- why rows can't be sent: there are none, or they have different numbers of values
abbrev pub bulk_cause : List (List Value) → Option BulkExecuteRequestError
bulk_cause [] = Some NoParams
bulk_cause (row ∷ rows) = if have_length (length row) (row ∷ rows) then None else Some MixedArity

-- why rows can't be sent with so many types, which have to be as many as the first row's values where they are sent
abbrev pub bulk_cause_with_types : ℕ → ℕ → List (List Value) → Option BulkExecuteRequestError
bulk_cause_with_types flags types [] = Some NoParams
bulk_cause_with_types flags types (row ∷ rows) =
    if have_length (length row) (row ∷ rows) &&
    (if sends_types flags then types == length row else true) then None else Some MixedArity
