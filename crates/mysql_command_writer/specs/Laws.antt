-- What was read is put. (MySQL: Client/Server Protocol, "Command Phase".)
use Rattle.std.specs.Prelude.{◌≡◌, ◌==◌, ℕ, true, List, length, Option, Some}
use Rattle.mysql_buf.specs.Bytes.{AreBytes}
use Rattle.mysql_const.specs.declared.capabilities.Capabilities.{Capabilities}
use Rattle.mysql_executions.specs.InForce.{InForce}
use Rattle.mysql_commands.specs.Commands.{BulkExecute, Command, Execute, Query, command_at}
use Rattle.mysql_command_writer.specs.Refusals.{ReadsBack, as_read, can_execute, can_execute_bulk, can_have_attributes}
use Rattle.mysql_command_writer.specs.Refusals.{have_count}

-- nothing speaks against a command
abbrev pub IsPut : Capabilities → Option InForce → Command → Type 0
IsPut capabilities parameters (Query attributes sql) = can_have_attributes capabilities attributes ≡ true
IsPut capabilities parameters (Execute execution) = can_execute capabilities parameters execution ≡ true
IsPut capabilities parameters (BulkExecute execution) = can_execute_bulk capabilities parameters execution ≡ true
IsPut capabilities parameters command = ReadsBack capabilities parameters command

-- and it is read as itself
abbrev pub IsOwn : Capabilities → Option InForce → Command → Type 0
IsOwn capabilities parameters command = IsPut capabilities parameters command × (as_read command ≡ command)

-- A command that a payload says may be put, by the same that it was read by, and is read again as it is.
abbrev pub ReadCommandsArePut : Type 0
ReadCommandsArePut = (capabilities : Capabilities) (parameters : Option InForce) (payload : List ℕ) →
    AreBytes payload → IsOwn capabilities parameters (command_at capabilities parameters payload)

-- Of an execution there are so many values; of a bulk one in each row.
abbrev pub HasValues : (count : ℕ) → Command → Type 0
HasValues count (Execute execution) = (length execution.parameters == count) ≡ true
HasValues count (BulkExecute execution) = have_count count execution.rows ≡ true
HasValues count command = Unit {0}

-- What may be put of a statement has as many values as the server counted parameters.
abbrev pub PutValuesAreCounted : Type 0
PutValuesAreCounted = (capabilities : Capabilities) (parameters : InForce) (command : Command) →
    IsPut capabilities (Some parameters) command → HasValues parameters.count command
