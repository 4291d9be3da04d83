-- The types that stand in executions. MySQL: Client/Server Protocol, "COM_STMT_EXECUTE"
-- (parameter_type, parameter_name), "COM_QUERY"; MariaDB: "COM_STMT_BULK_EXECUTE". x.0 is what was
-- read and x.1 the bytes left.
use Rattle.std.specs.Prelude.{ℕ, zero, suc, Bool, true, false, ◌==◌, if◌then◌else◌, List, [], ◌∷◌, map, Option, Some}
use Rattle.std.specs.Prelude.{None}
use Rattle.std.specs.Prelude.{unwrap_or}
use Rattle.std.specs.Option.{option_map}
use Rattle.mysql_buf.specs.Reading.{lenenc_str_at}
use Rattle.mysql_const.specs.ColumnTypes.{column_type_named}
use Rattle.mysql_const.specs.FlagSets.{contains}
use Rattle.mysql_const.specs.declared.capabilities.Capabilities.{Capabilities}
use Rattle.mysql_executions.specs.declared.types.BoundType.{BoundType}
use Rattle.mysql_executions.specs.declared.types.ParameterType.{ParameterType}
use Rattle.mysql_executions.specs.Fields.{◌>>=◌, number_at}

-- CLIENT_QUERY_ATTRIBUTES is in force
abbrev pub has_query_attributes : Capabilities → Bool
has_query_attributes capabilities = contains capabilities.protocol.0 0x8000000

-- MariaDB's bulk executions are in force (MARIADB_CLIENT_STMT_BULK_OPERATIONS)
abbrev pub has_bulk_operations : Capabilities → Bool
has_bulk_operations capabilities = contains capabilities.mariadb.0 4

-- the byte beside a type: whether its whole numbers have no sign
abbrev pub sign_named : ℕ → Option Bool
sign_named flags = if flags == 0 then Some false else if flags == 0x80 then Some true else None

-- the name behind a type, where types have names; else it is empty
abbrev pub name_at : (named : Bool) → List ℕ → Option (List ℕ × List ℕ)
name_at true bytes = lenenc_str_at bytes
name_at false bytes = Some ([], bytes)

-- a type: its number, its sign, its name
unfoldable pub type_at : (named : Bool) → List ℕ → Option (BoundType × List ℕ)
type_at named bytes = do
  number ← number_at 1 bytes
  column_type ← column_type_named number.0
  flags ← number_at 1 number.1
  unsigned ← sign_named flags.0
  name ← name_at named flags.1
  Some (
    record {
      parameter_type = record { column_type = column_type; unsigned = unsigned };
      name = name.0;
    },
    name.1,
  )

-- types that were read, and the bytes behind them, where all that were wanted could be
pub record TypesRead : Type 0 where
  pub found : List BoundType
  pub rest : Option (List ℕ)

-- a type before others
abbrev pub with_type : BoundType → TypesRead → TypesRead
with_type first others = record { found = first ∷ others.found; rest = others.rest }

-- so many types, up to the first that can't be read
unfoldable pub types_read : (named : Bool) → ℕ → List ℕ → TypesRead
types_read named zero bytes = record { found = []; rest = Some bytes }
types_read named (suc n) bytes =
    unwrap_or (option_map (λ first. with_type first.0 (types_read named n first.1)) (type_at named bytes))
    (record { found = []; rest = None })

-- so many types
abbrev pub types_at : (named : Bool) → ℕ → List ℕ → Option (List BoundType × List ℕ)
types_at named n bytes = do
  rest ← (types_read named n bytes).rest
  Some ((types_read named n bytes).found, rest)

-- the types that a command carries, where it says that it does
abbrev pub own_types_at : (bound named : Bool) → ℕ → List ℕ → Option (Option (List BoundType) × List ℕ)
own_types_at false named n bytes = Some (None, bytes)
own_types_at true named n bytes = do
  types ← types_at named n bytes
  Some (Some types.0, types.1)

-- without their names
abbrev pub unnamed : List BoundType → List ParameterType
unnamed types = map (λ t. t.parameter_type) types
