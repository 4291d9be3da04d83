-- What is in force of a prepared statement's parameters. MySQL: Client/Server Protocol,
-- "COM_STMT_EXECUTE" (new_params_bind_flag), "COM_STMT_SEND_LONG_DATA".
use Rattle.std.specs.Prelude.{ℕ, Bool, ◌==◌, List, length, Option, Some, None, nat_eq, not}
use Rattle.std.specs.Map.{lookup}
use Rattle.mysql_executions.specs.declared.types.BoundType.{BoundType}
use Rattle.mysql_executions.specs.declared.types.ParameterType.{ParameterType}
use Rattle.mysql_executions.specs.Fields.{◌>>◌, must}
use Rattle.mysql_executions.specs.Types.{unnamed}

-- how many parameters the statement has, the types that its first ones have, the long data that
-- waits by the places of its parameters, in their order, and whether some came for one that it hasn't
pub record InForce : Type 0 where
  pub count : ℕ
  pub types : List ParameterType
  pub long_data : List (ℕ × List ℕ)
  pub broken : Bool

-- the long data that waits for a parameter
abbrev pub data_for : List (ℕ × List ℕ) → (place : ℕ) → Option (List ℕ)
data_for waiting place = lookup (nat_eq place) waiting

-- the types that count: a command's own, else those in force, of which each parameter needs one
abbrev pub types_that_count : InForce → Option (List BoundType) → Option (List ParameterType)
types_that_count s (Some own) = Some (unnamed own)
types_that_count s None = must (length s.types == s.count) >> Some s.types

-- whether long data waits for any parameter
abbrev pub is_waiting : InForce → Bool
is_waiting s = not (length s.long_data == 0)
