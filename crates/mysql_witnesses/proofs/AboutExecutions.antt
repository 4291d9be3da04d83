-- Executions and commands that aren't put.
use Rattle.std.proofs.Common.{◌≡◌, true, false, [], ◌∷◌}
use Rattle.mysql_commands.specs.Commands.{Command, FieldList, Other, Ping}
use Rattle.mysql_execution_writer.specs.Cells.{are_parameters}
use Rattle.mysql_execution_writer.specs.Written.{can_be_put}
use Rattle.mysql_witnesses.specs.Executions.{CommandsAreNotPutAsOthers, NamesWithZerosAreNotPut}
use Rattle.mysql_witnesses.specs.Executions.{NothingElseIsPutForWaitingData}

pub nothing_else_is_put_for_waiting_data : NothingElseIsPutForWaitingData
unfolding can_be_put are_parameters
nothing_else_is_put_for_waiting_data old new h = let e : false ≡ true = h.0 in cc

pub names_with_zeros_are_not_put : NamesWithZerosAreNotPut
names_with_zeros_are_not_put capabilities old new h =
    let e : ◌≡◌ {A = Command} (FieldList [] []) (FieldList (0 ∷ []) []) = h.1 in cc

pub commands_are_not_put_as_others : CommandsAreNotPutAsOthers
commands_are_not_put_as_others capabilities old new h = let e : ◌≡◌ {A = Command} Ping (Other (0x0e ∷ [])) = h.1 in cc
