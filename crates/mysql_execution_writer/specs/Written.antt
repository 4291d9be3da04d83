-- Executions and attributes as they are written by what is in force, and which can be. MySQL:
-- Client/Server Protocol, "COM_STMT_EXECUTE", "COM_QUERY", "Null-Bitmap". A body is what stands
-- behind the command's first byte.
use Rattle.std.specs.Prelude.{ℕ, ◌+◌, ◌==◌, ◌&&◌, ◌||◌, Bool, true, not, if◌then◌else◌, List, [], ◌++◌, length, map}
use Rattle.std.specs.Prelude.{nat_lt}
use Rattle.std.specs.Prelude.{Option, Some, None, get_or, is_some, unwrap_or}
use Rattle.std.specs.List.{list_all}
use Rattle.byteorder.specs.Endian.{little_bytes}
use Rattle.mysql_buf.specs.Writing.{lenenc_int}
use Rattle.mysql_const.specs.declared.capabilities.Capabilities.{Capabilities}
use Rattle.mysql_cells.specs.Values.{is_null}
use Rattle.mysql_cells.specs.declared.value.Value.{Value}
use Rattle.mysql_cells.specs.declared.value.Value.TheVariants.{UInt}
use Rattle.mysql_stmt.specs.Executions.{null_bitmap}
use Rattle.mysql_executions.specs.Executions.{Execution, count_available, gives_count, named_flags}
use Rattle.mysql_executions.specs.InForce.{InForce}
use Rattle.mysql_executions.specs.Types.{has_query_attributes}
use Rattle.mysql_executions.specs.Views.{types_by}
use Rattle.mysql_executions.specs.declared.types.Attribute.{Attribute}
use Rattle.mysql_executions.specs.declared.types.BoundType.{BoundType}
use Rattle.mysql_execution_writer.specs.Cells.{are_attributes, are_parameters, as_read, attributes_bytes, fits_name}
use Rattle.mysql_execution_writer.specs.Cells.{parameters_bytes, types_bytes}

-- the values of attributes, and their types
abbrev pub values_of : List Attribute → List Value
values_of attributes = map (λ a. a.value) attributes

abbrev pub types_of_attributes : List Attribute → List BoundType
types_of_attributes attributes = map (λ a. a.bound_type) attributes

-- whether a place holds NULL; behind all values none does
abbrev pub null_at : List Value → (place : ℕ) → Bool
null_at values place = is_null (get_or values place (UInt 0))

-- the bitmap of values and whether types follow; nothing where there are no values
abbrev pub binding_bytes : List Value → (bound : Bool) → List ℕ
binding_bytes values bound =
    if length values == 0 then [] else null_bitmap values ++ little_bytes 1 (if bound then 1 else 0)

-- EXECUTIONS

-- the byte of an execution's flags
abbrev pub flags_of : Execution → ℕ
flags_of e = e.cursor.0 + (if e.count_available then count_available else 0) + e.nameless_flags

-- all values: those of the statement's parameters, and of the attributes
abbrev pub all_values : Execution → List Value
all_values e = e.parameters ++ values_of e.attributes

-- an execution: the statement's id, the flags, the iteration count, the number of parameters where it
-- is given, the bitmap, the types where it carries them, the values, and what stands behind them
unfoldable pub execution_bytes : Capabilities → InForce → Execution → List ℕ
execution_bytes capabilities s e =
    let named = has_query_attributes capabilities in
    little_bytes 4 e.statement ++ (little_bytes 1 (flags_of e) ++ (little_bytes 4 e.iterations
    ++ ((if gives_count capabilities (flags_of e) s.count then lenenc_int (length (all_values e)) else [])
    ++ (binding_bytes (all_values e) (is_some e.types)
    ++ (types_bytes named (unwrap_or e.types []) ++ (types_bytes named (types_of_attributes e.attributes)
    ++ (parameters_bytes s.long_data 0 (types_by e.types s.types) e.parameters
    ++ (attributes_bytes e.attributes ++ e.rest))))))))

-- three bits of a cursor; the number of parameters is given by query attributes alone; no bit without a
-- name is one that has a name
abbrev pub can_have_flags : Capabilities → Execution → Bool
can_have_flags capabilities e =
    nat_lt e.cursor.0 8
    && (has_query_attributes capabilities || not e.count_available)
    && (named_flags capabilities e.nameless_flags == 0)

-- types are as many as parameters, where there are values; without types those in force are, and
-- there are no attributes
abbrev pub can_have_types : InForce → Execution → Option (List BoundType) → Bool
can_have_types s e (Some own) = (length own == s.count) && nat_lt 0 (length (all_values e))
can_have_types s e None = (length s.types == s.count) && (length e.attributes == 0)

-- attributes stand where the number of parameters does
abbrev pub can_have_attributes : Capabilities → InForce → Execution → Bool
can_have_attributes capabilities s e = gives_count capabilities (flags_of e) s.count || (length e.attributes == 0)

-- an execution that can be written: the statement isn't broken, and flags, types, names and values fit
unfoldable pub can_be_put : Capabilities → InForce → Execution → Bool
can_be_put capabilities s e =
    not s.broken
    && can_have_flags capabilities e
    && (length e.parameters == s.count)
    && can_have_types s e e.types
    && can_have_attributes capabilities s e
    && list_all (fits_name (has_query_attributes capabilities)) (unwrap_or e.types [])
    && are_parameters s.long_data 0 (types_by e.types s.types) e.parameters
    && are_attributes (has_query_attributes capabilities) e.attributes

-- what attributes are read as, each value as it is read
abbrev pub attributes_as_read : List Attribute → List Attribute
attributes_as_read attributes = map (λ a. record { bound_type = a.bound_type; value = as_read a.value }) attributes

-- what an execution is read as
abbrev pub execution_as_read : Execution → Execution
execution_as_read e = record e {
  parameters = map as_read e.parameters;
  attributes = attributes_as_read e.attributes;
}

-- ATTRIBUTES OF A QUERY

-- how many there are, one set, the bitmap, the types, the values
unfoldable pub query_attributes_bytes : List Attribute → List ℕ
query_attributes_bytes attributes =
    lenenc_int (length attributes) ++ (lenenc_int 1 ++ (binding_bytes (values_of attributes) true
    ++ (types_bytes true (types_of_attributes attributes) ++ attributes_bytes attributes)))
