-- Types and values as they are written in executions. MySQL: Client/Server Protocol,
-- "COM_STMT_EXECUTE" (parameter_type, parameter_name), "Binary Protocol Value".
use Rattle.std.specs.Prelude.{ℕ, ◌+◌, ◌==◌, ◌&&◌, ◌||◌, Bool, true, false, if◌then◌else◌, List, [], ◌∷◌, ◌++◌, length}
use Rattle.std.specs.Prelude.{Option, Some, None, bytes_eq, is_some, unwrap_or}
use Rattle.std.specs.List.{flat_map, list_all}
use Rattle.std.specs.Option.{option_map}
use Rattle.byteorder.specs.Endian.{little_bytes}
use Rattle.mysql_buf.specs.Writing.{lenenc_str}
use Rattle.mysql_const.specs.ColumnTypes.{column_type_number}
use Rattle.mysql_cells.specs.Cells.{unsigned_value}
use Rattle.mysql_cells.specs.TypedCells.{typed_cell}
use Rattle.mysql_cells.specs.Values.{is_zero_time}
use Rattle.mysql_cells.specs.declared.value.Value.{Value}
use Rattle.mysql_cells.specs.declared.value.Value.TheVariants.{Bytes, UInt, Time}
use Rattle.mysql_executions.specs.InForce.{data_for}
use Rattle.mysql_executions.specs.declared.types.Attribute.{Attribute}
use Rattle.mysql_executions.specs.declared.types.BoundType.{BoundType}
use Rattle.mysql_executions.specs.declared.types.ParameterType.{ParameterType}

-- TYPES

-- a type: its number, its sign, its name where types have names
abbrev pub type_bytes : (named : Bool) → BoundType → List ℕ
type_bytes named t = little_bytes 1 (column_type_number t.parameter_type.column_type) ++
    (little_bytes 1 (if t.parameter_type.unsigned then 0x80 else 0) ++ (if named then lenenc_str t.name else []))

-- one after another
abbrev pub types_bytes : (named : Bool) → List BoundType → List ℕ
types_bytes named types = flat_map (type_bytes named) types

-- where types have no names their names are empty
abbrev pub fits_name : (named : Bool) → BoundType → Bool
fits_name named t = named || (length t.name == 0)

-- VALUES

-- whether a value is a negative time of all zeros
abbrev pub is_negative_zero : Value → Bool
is_negative_zero (Time negative days hours minutes seconds micros) =
    negative && is_zero_time days hours minutes seconds micros
is_negative_zero value = false

-- its cell, which keeps the sign: eight bytes, of which the first says that it is negative
abbrev pub negative_zero_cell : List ℕ
negative_zero_cell = 8 ∷ 1 ∷ 0 ∷ 0 ∷ 0 ∷ 0 ∷ 0 ∷ 0 ∷ 0 ∷ []

-- the cell of a value by a type, where there is one
abbrev pub parameter_cell : ParameterType → Value → Option (List ℕ)
parameter_cell t value =
    option_map (λ cell. if is_negative_zero value then negative_zero_cell else cell)
    (typed_cell t.column_type t.unsigned value)

-- what a value is read as: itself, but an unsigned number below 2 ^ 63 as Int
abbrev pub as_read : Value → Value
as_read (UInt n) = unsigned_value n
as_read value = value

-- PARAMETERS

-- the bytes of a parameter: none where long data waits for it
abbrev pub parameter_bytes : Option (List ℕ) → ParameterType → Value → List ℕ
parameter_bytes (Some sent) t value = []
parameter_bytes None t value = unwrap_or (parameter_cell t value) []

-- whether a value is these bytes
abbrev pub is_text : List ℕ → Value → Bool
is_text sent (Bytes bytes) = bytes_eq bytes sent
is_text sent value = false

-- whether a parameter can be written: it is the long data that waits for it, or has a cell
abbrev pub is_parameter : Option (List ℕ) → ParameterType → Value → Bool
is_parameter (Some sent) t value = is_text sent value
is_parameter None t value = is_some (parameter_cell t value)

-- the parameters from this place on
unfoldable pub parameters_bytes : (waiting : List (ℕ × List ℕ)) → (place : ℕ) →
    List ParameterType → List Value → List ℕ
parameters_bytes waiting place [] values = []
parameters_bytes waiting place (t ∷ types) [] = []
parameters_bytes waiting place (t ∷ types) (value ∷ values) =
    parameter_bytes (data_for waiting place) t value ++ parameters_bytes waiting (place + 1) types values

-- one for each type, and each can be written
unfoldable pub are_parameters : (waiting : List (ℕ × List ℕ)) → (place : ℕ) →
    List ParameterType → List Value → Bool
are_parameters waiting place [] [] = true
are_parameters waiting place [] (value ∷ values) = false
are_parameters waiting place (t ∷ types) [] = false
are_parameters waiting place (t ∷ types) (value ∷ values) =
    is_parameter (data_for waiting place) t value && are_parameters waiting (place + 1) types values

-- ATTRIBUTES

-- the cell of an attribute by its type, where there is one
abbrev pub attribute_cell : Attribute → Option (List ℕ)
attribute_cell a = parameter_cell a.bound_type.parameter_type a.value

abbrev pub attributes_bytes : List Attribute → List ℕ
attributes_bytes attributes = flat_map (λ a. unwrap_or (attribute_cell a) []) attributes

-- whether each has a cell, and a name where it may
abbrev pub are_attributes : (named : Bool) → List Attribute → Bool
are_attributes named attributes = list_all (λ a. fits_name named a.bound_type && is_some (attribute_cell a)) attributes
