-- What the definitions of counts exclude: an execution with another number of values than the server counted
-- parameters. Of `DELETE FROM t WHERE id = ? /*!80000 AND k = ? */` a MariaDB counts one, and the text has two places.
-- MySQL: Client/Server Protocol, "COM_STMT_PREPARE Response" (num_params), "COM_STMT_EXECUTE".
use Rattle.std.specs.Prelude.{◌≡◌, ℕ, List, [], ◌∷◌, length, Some, Result, Err, pos}
use Rattle.mysql_cells.specs.declared.value.Value.TheVariants.{Int}
use Rattle.mysql_command_writer.specs.Refusals.{cause_against}
use Rattle.mysql_command_writer.specs.declared.refusal.CommandRefusal.TheVariants as cause
use Rattle.mysql_commands.specs.Commands.{BulkExecute, Execute}
use Rattle.mysql_connection_machine.specs.Machines.{Machine}
use Rattle.mysql_connection_machine.specs.PuttingSets.{PutsSets, parameters_counted}
use Rattle.mysql_connection_machine.specs.declared.sets_refusal.SetsRefusal.{SetsRefusal}
use Rattle.mysql_connection_machine.specs.declared.sets_refusal.SetsRefusal.TheVariants.{WrongCount}
use Rattle.mysql_const.specs.declared.capabilities.Capabilities.{Capabilities}
use Rattle.mysql_executions.specs.Bulks.{BulkExecution}
use Rattle.mysql_executions.specs.Executions.{Execution}
use Rattle.mysql_executions.specs.InForce.{InForce}
use Rattle.mysql_executions.specs.declared.bulk.BulkValue.TheVariants.{Ignore}
use Rattle.mysql_session.specs.Kept.{ChecksCount}
use Rattle.mysql_session.specs.declared.wrong_count.WrongCount.{WrongCount as Wrong}
use Rattle.mysql_values.specs.Place.{Place}
use Rattle.mysql_values.specs.Queries.{HasPlaces}
use Rattle.mysql_values.specs.Sql.{Sql}

-- Sets of two values aren't put of a statement of one parameter. Excluded: packets that are put, by which the server
-- deletes another row; another cause; a connection that has gone on.
abbrev pub SetsOfAnotherCountAreNotPut : Type 0
SetsOfAnotherCountAreNotPut = (old new : Machine) (packets before behind : List ℕ) (result : Result ℕ SetsRefusal) →
    parameters_counted old 1 ≡ Some 1 → PutsSets old 1 2 packets before result new behind →
    (result ≡ Err (WrongCount 1)) × (new ≡ old) × (behind ≡ before)

-- The cause against an execution of the values 5 and 7 is their count. Excluded: that it reads otherwise.
abbrev pub ValuesOfAnotherCountAreNamed : Type 0
ValuesOfAnotherCountAreNamed = (capabilities : Capabilities) (s : InForce) (e : Execution) → s.count ≡ 1 →
    e.parameters ≡ Int (pos 5) ∷ Int (pos 7) ∷ [] → cause_against capabilities (Some s) (Execute e) ≡ cause.WrongCount

-- So is that against a row of two values behind one of one. Excluded: a first row that decides.
abbrev pub RowsOfAnotherCountAreNamed : Type 0
RowsOfAnotherCountAreNamed = (capabilities : Capabilities) (s : InForce) (e : BulkExecution) → s.count ≡ 1 →
    e.rows ≡ (Ignore ∷ []) ∷ (Ignore ∷ Ignore ∷ []) ∷ [] →
    cause_against capabilities (Some s) (BulkExecute e) ≡ cause.WrongCount

-- A query with two places isn't said to have the server's one parameter. Excluded: a check that says nothing.
abbrev pub AnotherCountIsTold : Type 0
AnotherCountIsTold = (query : Sql) (places : List Place) (result : Result (Unit {0}) Wrong) →
    HasPlaces query places → length places ≡ 2 → ChecksCount query 1 result →
    result ≡ Err (record { places = 2; parameters = 1 })
