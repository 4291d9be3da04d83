-- Commands as they are written: the statement that one is about, and whether it is read as it is.
-- MySQL: Client/Server Protocol, "Command Phase" and "Prepared Statements"; MariaDB: Client/Server
-- Protocol, "3 - Binary Protocol (Prepared Statements)".
use Rattle.std.specs.Prelude.{ℕ, ◌^◌, ◌&&◌, Bool, true, nat_le, if◌then◌else◌, List, Option, Some, None}
use Rattle.std.specs.List.{list_all}
use Rattle.std.specs.Option.{option_and_then, option_map}
use Rattle.mysql_cells.specs.declared.value.Value.{Value}
use Rattle.mysql_cells.specs.declared.value.Value.TheVariants.{UInt}
use Rattle.mysql_const.specs.declared.capabilities.Capabilities.{Capabilities}
use Rattle.mysql_executions.specs.InForce.{InForce}
use Rattle.mysql_executions.specs.declared.bulk.BulkValue.{BulkValue}
use Rattle.mysql_executions.specs.declared.bulk.BulkValue.TheVariants as bulk
use Rattle.mysql_executions.specs.declared.types.Attribute.{Attribute}
use Rattle.mysql_commands.specs.Commands.{BulkExecute, Close, Command, Execute, Fetch, LongData}
use Rattle.mysql_commands.specs.Commands.{Other, Query, ResetStatement}
use Rattle.mysql_commands.specs.Replies.{statement_of}
use Rattle.mysql_command_writer.specs.Refusals.{can_execute, can_execute_bulk, can_have_attributes}
use Rattle.mysql_command_writer.specs.Written.{command_bytes}
use Rattle.mysql_connection_statements.specs.Statements.{Statements, resolved, statement_at}

-- THE STATEMENT THAT A COMMAND IS ABOUT

-- By the id that it has itself; other bytes are about the one that they name.
abbrev pub statement_named : Command → Option ℕ
statement_named (Execute execution) = Some execution.statement
statement_named (BulkExecute execution) = Some execution.statement
statement_named (LongData id place bytes) = Some id
statement_named (Close id) = Some id
statement_named (ResetStatement id) = Some id
statement_named (Fetch id rows) = Some id
statement_named (Other payload) = statement_of payload
statement_named command = None

-- What is in force of its parameters, where it is known.
abbrev pub parameters_of : Statements → Option ℕ → Option InForce
parameters_of s named = option_map (λ statement. statement.parameters)
    (option_and_then (statement_at s) (option_and_then (resolved s) named))

abbrev pub parameters_named : Statements → Command → Option InForce
parameters_named s command = parameters_of s (statement_named command)

-- PAYLOADS

abbrev pub payload_if : Bool → List ℕ → Option (List ℕ)
payload_if can payload = if can then Some payload else None

-- A command's payload; of values there is one where each has a cell by its type.
abbrev pub command_payload : Capabilities → Option InForce → Command → Option (List ℕ)
command_payload capabilities parameters (Query attributes sql) =
    payload_if (can_have_attributes capabilities attributes)
    (command_bytes capabilities parameters (Query attributes sql))
command_payload capabilities parameters (Execute execution) =
    payload_if (can_execute capabilities parameters execution)
    (command_bytes capabilities parameters (Execute execution))
command_payload capabilities parameters (BulkExecute execution) =
    payload_if (can_execute_bulk capabilities parameters execution)
    (command_bytes capabilities parameters (BulkExecute execution))
command_payload capabilities parameters command =
    Some (command_bytes capabilities parameters command)

-- WHETHER A COMMAND IS READ AS IT IS

-- A value that is read as itself: no unsigned number that fits a signed one.
abbrev pub is_own : Value → Bool
is_own (UInt n) = nat_le (2 ^ 63) n
is_own value = true

abbrev pub are_own_attributes : List Attribute → Bool
are_own_attributes attributes = list_all (λ attribute. is_own attribute.value) attributes

abbrev pub is_own_in_bulk : BulkValue → Bool
is_own_in_bulk (bulk.Value value) = is_own value
is_own_in_bulk value = true

-- Each value of a command is read as itself.
abbrev pub is_own_command : Command → Bool
is_own_command (Query attributes sql) = are_own_attributes attributes
is_own_command (Execute execution) =
    list_all is_own execution.parameters && are_own_attributes execution.attributes
is_own_command (BulkExecute execution) =
    list_all (λ row. list_all is_own_in_bulk row) execution.rows
is_own_command command = true
