-- The laws of commands that are recoded. Each is the contract of a function in src/laws.rt.
-- MySQL: Client/Server Protocol, "Prepared Statements", "COM_STMT_EXECUTE" (new_params_bind_flag).
use Rattle.std.specs.Prelude.{◌≡◌, ◌<◌, List, Option, Some, Ok}
use Rattle.mysql_commands.specs.Commands.{Command}
use Rattle.mysql_connection_recoding.specs.Agreement.{sets_of}
use Rattle.mysql_executions.specs.InForce.{InForce, types_that_count}
use Rattle.mysql_executions.specs.declared.types.BoundType.{BoundType}
use Rattle.mysql_executions.specs.declared.types.ParameterType.{ParameterType}
use Rattle.mysql_connection_recoding.specs.Recoding.{Ids, recoded, types_there}

-- What an execution says there is what it says here: the same sets of the same contents.
abbrev pub RecodedCommandsSayTheSame : Type 0
RecodedCommandsSayTheSame = (in_force : List ParameterType) (ids : Ids) (command other : Command) →
    recoded in_force ids command ≡ Ok other → sets_of other ≡ sets_of command

-- Of a statement that has parameters the types that count there, whichever are in force there, are
-- those that count here.
abbrev pub TypesCountThere : Type 0
TypesCountThere = (here there : InForce) (own : Option (List BoundType))
    (counted : List ParameterType) → 0 < here.count →
    types_that_count here own ≡ Some counted →
    types_that_count there (types_there here.types own) ≡ Some counted
