-- What the definitions of commands for another connection exclude. MySQL: Client/Server Protocol,
-- "COM_STMT_PREPARE Response" (statement_id), "COM_STMT_EXECUTE" (new_params_bind_flag), "COM_STMT_CLOSE".
use Rattle.std.specs.Prelude.{◌≡◌, [], ◌∷◌, None, Ok, Some}
use Rattle.mysql_commands.specs.Commands.{Close, Execute}
use Rattle.mysql_connection_recoding.specs.Recoding.{Ids, ids_behind, no_ids, recoded, with_id}
use Rattle.mysql_executions.specs.Executions.{Execution}
use Rattle.mysql_executions.specs.declared.types.ParameterType.{ParameterType}

-- the statement 1 is the statement 2 there
abbrev pub one_is_two : Ids
one_is_two = with_id 1 2 no_ids

-- An execution of the statement 1, for which a type is in force, is one of the statement 2 there and carries
-- that type. Excluded: its id here, and an execution without types, which there are in force by none.
-- MySQL: Client/Server Protocol, "COM_STMT_EXECUTE" (statement_id, new_params_bind_flag).
abbrev pub ExecutionsGoWithIdAndTypes : Type 0
ExecutionsGoWithIdAndTypes = (t : ParameterType) (execution : Execution) →
    recoded (t ∷ []) one_is_two (Execute (record execution { statement = 1; types = None }))
    ≡ Ok (Execute (record execution {
      statement = 2;
      types = Some (record { parameter_type = t; name = [] } ∷ []);
    }))

-- Behind a close the statement's id is known no more, and those of others are. Excluded: an id that is kept over
-- it. MySQL: Client/Server Protocol, "COM_STMT_CLOSE".
abbrev pub ClosedIdsAreForgotten : Type 0
ClosedIdsAreForgotten =
    (ids_behind (Close 1) one_is_two 1 ≡ None) × (ids_behind (Close 3) one_is_two 1 ≡ Some 2)
