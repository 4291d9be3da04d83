-- What is in force behind a command, and what its reply takes back. MySQL: Client/Server Protocol,
-- "COM_STMT_EXECUTE" (new_params_bind_flag), "COM_STMT_SEND_LONG_DATA", "COM_STMT_RESET"; MariaDB:
-- "COM_STMT_BULK_EXECUTE". Of errors: MySQL Error Message Reference, ER_MALFORMED_PACKET (1835),
-- ER_UNSUPPORTED_PS (1295).
use Rattle.std.specs.Prelude.{ℕ, Bool, true, false, not, ◌==◌, ◌||◌, if◌then◌else◌, List, [], ◌++◌}
use Rattle.std.specs.Prelude.{length, take, drop, nat_le, nat_lt, Option, Some, None, unwrap_or}
use Rattle.std.specs.BTreeMap.{insert_entry}
use Rattle.std.specs.List.{prefix_len}
use Rattle.std.specs.Ordering.{nat_cmp}
use Rattle.mysql_const.specs.FlagSets.{contains}
use Rattle.mysql_const.specs.declared.capabilities.Capabilities.{Capabilities}
use Rattle.mysql_const.specs.declared.column_type.ColumnType.{ColumnType}
use Rattle.mysql_const.specs.declared.column_type.ColumnType.TheVariants.{MYSQL_TYPE_NEWDATE, MYSQL_TYPE_TIMESTAMP2}
use Rattle.mysql_const.specs.declared.column_type.ColumnType.TheVariants.{MYSQL_TYPE_DATETIME2, MYSQL_TYPE_TIME2}
use Rattle.mysql_const.specs.declared.column_type.ColumnType.TheVariants.{MYSQL_TYPE_TYPED_ARRAY, MYSQL_TYPE_VECTOR}
use Rattle.mysql_const.specs.declared.column_type.ColumnType.TheVariants.{MYSQL_TYPE_UNKNOWN, MYSQL_TYPE_JSON}
use Rattle.mysql_executions.specs.declared.refused.Refused.{Refused}
use Rattle.mysql_executions.specs.declared.refused.Refused.TheVariants.{Execution, Bulk}
use Rattle.mysql_executions.specs.declared.types.BoundType.{BoundType}
use Rattle.mysql_executions.specs.declared.types.ParameterType.{ParameterType}
use Rattle.mysql_executions.specs.Bulks.{BulkHead, bulk_head, send_types_to_server}
use Rattle.mysql_executions.specs.Executions.{ExecutionHead, execution_head}
use Rattle.mysql_executions.specs.InForce.{InForce, data_for}
use Rattle.mysql_executions.specs.Types.{has_query_attributes, types_read}

-- at a prepare: no types, and no long data that waits
abbrev pub freshly_prepared : (count : ℕ) → InForce
freshly_prepared count = record { count = count; types = []; long_data = []; broken = false }

-- THE TYPES OF A COMMAND

-- the types that an execution's body carries for the statement's parameters, up to the first that can't be read
abbrev pub types_of_head : Capabilities → (n : ℕ) → Option ExecutionHead → List BoundType
types_of_head capabilities n None = []
types_of_head capabilities n (Some head) =
    if head.binding.bound then (types_read (has_query_attributes capabilities) n head.binding.rest).found else []

unfoldable pub execution_types : Capabilities → (n : ℕ) → List ℕ → List BoundType
execution_types capabilities n body = types_of_head capabilities n (execution_head capabilities n body)

-- those that a bulk's body carries
abbrev pub types_of_bulk : (n : ℕ) → Option BulkHead → List BoundType
types_of_bulk n None = []
types_of_bulk n (Some head) =
    if contains head.flags send_types_to_server then (types_read false n head.rest).found else []

unfoldable pub bulk_types : (n : ℕ) → List ℕ → List BoundType
bulk_types n body = types_of_bulk n (bulk_head body)

-- BEHIND A COMMAND

-- types of the first parameters in place of those that they had
abbrev pub in_place_of : List ParameterType → List ParameterType → List ParameterType
in_place_of types before = types ++ drop (length types) before

-- behind an execution that carries these types, a bulk's too: no long data waits any more. One of a
-- broken statement isn't read
abbrev pub after_execution : List ParameterType → InForce → InForce
after_execution types s = record {
  count = s.count;
  types = if s.broken then s.types else in_place_of types s.types;
  long_data = if s.broken then s.long_data else [];
  broken = s.broken;
}

-- long data goes behind what waits for its parameter
abbrev pub more_data : List (ℕ × List ℕ) → (place : ℕ) → List ℕ → List (ℕ × List ℕ)
more_data waiting place bytes =
    insert_entry nat_cmp waiting place (unwrap_or (data_for waiting place) [] ++ bytes)

-- behind long data: of a parameter that the statement hasn't, it is broken
abbrev pub after_long_data : (place : ℕ) → List ℕ → InForce → InForce
after_long_data place bytes s = record {
  count = s.count;
  types = s.types;
  long_data = if nat_lt place s.count then more_data s.long_data place bytes else s.long_data;
  broken = s.broken || nat_le s.count place;
}

-- behind a reset: types stay
abbrev pub after_reset : InForce → InForce
after_reset s = record { count = s.count; types = s.types; long_data = []; broken = false }

-- BEHIND A REFUSAL

-- types that only some servers take: NEWDATE, TIMESTAMP2 to TYPED_ARRAY, VECTOR, UNKNOWN and JSON
abbrev pub is_disputed : ColumnType → Bool
is_disputed MYSQL_TYPE_NEWDATE = true
is_disputed MYSQL_TYPE_TIMESTAMP2 = true
is_disputed MYSQL_TYPE_DATETIME2 = true
is_disputed MYSQL_TYPE_TIME2 = true
is_disputed MYSQL_TYPE_TYPED_ARRAY = true
is_disputed MYSQL_TYPE_VECTOR = true
is_disputed MYSQL_TYPE_UNKNOWN = true
is_disputed MYSQL_TYPE_JSON = true
is_disputed column_type = false

-- how many of the first types each server takes
abbrev pub undisputed : List ParameterType → ℕ
undisputed types = prefix_len (λ t. not (is_disputed t.column_type)) types

-- what a refused command leaves of the types behind it, of which it carried so many first ones: from
-- the first of these that only some servers take on there are none
abbrev pub refused_types : (carried : ℕ) → List ParameterType → List ParameterType
refused_types carried types =
    let kept = undisputed (take carried types) in
    if kept == carried then types else take kept types

-- the errors of a packet that wasn't read, and of a command that the server doesn't know for the statement
abbrev pub malformed_packet : ℕ
malformed_packet = 1835

abbrev pub unsupported_command : ℕ
unsupported_command = 1295

-- whether a server that refuses a bulk of these flags unread has dropped the long data
abbrev pub drops_data : ℕ → Bool
drops_data flags = flags == 0 || flags == send_types_to_server

-- behind a bulk that was refused unread: types are as before it
abbrev pub after_unread_bulk : (flags : ℕ) → InForce → InForce
after_unread_bulk flags before = record {
  count = before.count;
  types = before.types;
  long_data = if drops_data flags then [] else before.long_data;
  broken = before.broken;
}

-- behind a command that was refused and read, of which s is in force
abbrev pub after_read_refusal : (carried : ℕ) → InForce → InForce
after_read_refusal carried s = record {
  count = s.count;
  types = refused_types carried s.types;
  long_data = s.long_data;
  broken = s.broken;
}

-- Behind a command of a statement that isn't broken, which was answered by an error of this code: it
-- carried so many types; what was in force before it, and what is in force behind it.
abbrev pub after_refusal : (code : ℕ) → Refused → (carried : ℕ) → (before s : InForce) → InForce
after_refusal code Execution carried before s =
    if code == malformed_packet then before else after_read_refusal carried s
after_refusal code (Bulk flags) carried before s =
    if code == malformed_packet then before
    else if code == unsupported_command then after_unread_bulk flags before
    else after_read_refusal carried s
