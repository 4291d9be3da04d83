-- Why a command isn't put: its payload would read as another one. (MySQL: Client/Server Protocol, "Command Phase".)
use Rattle.std.specs.Prelude.{◌≡◌, ◌≢◌, ◌==◌, ℕ, Bool, true, false, if◌then◌else◌, List, ◌++◌, length, Option, None}
use Rattle.std.specs.Prelude.{Some}
use Rattle.std.specs.Prelude.{Result, Ok, Err}
use Rattle.std.specs.List.{list_all}
use Rattle.mysql_const.specs.BinlogDumpFlags.{binlog_dump_flags}
use Rattle.mysql_const.specs.declared.capabilities.Capabilities.{Capabilities}
use Rattle.mysql_execution_writer.specs.Bulks.{bulk_as_read, can_put_bulk}
use Rattle.mysql_execution_writer.specs.Cells.{are_attributes}
use Rattle.mysql_execution_writer.specs.Laws.{FitsAttributes, FitsBulk, FitsExecution}
use Rattle.mysql_execution_writer.specs.Written.{attributes_as_read, can_be_put, execution_as_read}
use Rattle.mysql_executions.specs.Bulks.{BulkExecution}
use Rattle.mysql_executions.specs.Executions.{Execution}
use Rattle.mysql_executions.specs.InForce.{InForce}
use Rattle.mysql_executions.specs.Types.{has_query_attributes}
use Rattle.mysql_executions.specs.declared.bulk.BulkValue.{BulkValue}
use Rattle.mysql_executions.specs.declared.types.Attribute.{Attribute}
use Rattle.mysql_field_constants.specs.Flags.{are_named}
use Rattle.mysql_commands.specs.Commands.{BinlogDump, BinlogDumpGtid, BulkExecute, Command, Execute, FieldList, Other}
use Rattle.mysql_commands.specs.Commands.{Query}
use Rattle.mysql_commands.specs.Commands.{RegisterSlave, TableDump, command_at}
use Rattle.mysql_command_writer.specs.Written.{command_bytes}
use Rattle.mysql_command_writer.specs.declared.refusal.CommandRefusal.{CommandRefusal}
use Rattle.mysql_command_writer.specs.declared.refusal.CommandRefusal.TheVariants.{Memory, NamelessFlags, NotAgreed}
use Rattle.mysql_command_writer.specs.declared.refusal.CommandRefusal.TheVariants.{ReadsAsCommand, ReadsOtherwise}
use Rattle.mysql_command_writer.specs.declared.refusal.CommandRefusal.TheVariants.{TooLong, UnknownStatement}
use Rattle.mysql_command_writer.specs.declared.refusal.CommandRefusal.TheVariants.{WrongCount, ZeroByte}

-- each row has so many values
abbrev pub have_count : ℕ → List (List BulkValue) → Bool
have_count count rows = list_all (λ row. length row == count) rows

-- the cause against a command whose payload reads otherwise: a query has attributes that aren't in force, a table's
-- name has a zero, a text is longer than its length can say, flags have no name, an execution is of a statement that
-- isn't known, or has another number of values than that has parameters, another payload says a command that is known;
-- of others it has no name of its own
abbrev pub cause_against : Capabilities → Option InForce → Command → CommandRefusal
cause_against capabilities parameters (Query attributes sql) =
    if has_query_attributes capabilities then ReadsOtherwise else NotAgreed
cause_against capabilities parameters (FieldList table wildcard) = ZeroByte
cause_against capabilities parameters (BinlogDump request) = NamelessFlags
cause_against capabilities parameters (TableDump request) = TooLong
cause_against capabilities parameters (RegisterSlave replica) = TooLong
cause_against capabilities None (Execute execution) = UnknownStatement
cause_against capabilities (Some parameters) (Execute execution) =
    if length execution.parameters == parameters.count then ReadsOtherwise else WrongCount
cause_against capabilities None (BulkExecute execution) = UnknownStatement
cause_against capabilities (Some parameters) (BulkExecute execution) =
    if have_count parameters.count execution.rows then ReadsOtherwise else WrongCount
cause_against capabilities parameters (BinlogDumpGtid request) =
    if are_named binlog_dump_flags request.flags then TooLong else NamelessFlags
cause_against capabilities parameters (Other payload) = ReadsAsCommand
cause_against capabilities parameters _ = ReadsOtherwise

-- what a command's payload is read as: it, with each value of an execution or an attribute as that is read
abbrev pub as_read : Command → Command
as_read (Query attributes sql) = Query (attributes_as_read attributes) sql
as_read (Execute execution) = Execute (execution_as_read execution)
as_read (BulkExecute execution) = BulkExecute (bulk_as_read execution)
as_read command = command

-- a command's payload reads as it
abbrev pub ReadsBack : Capabilities → Option InForce → Command → Type 0
ReadsBack capabilities parameters command =
    command_at capabilities parameters (command_bytes capabilities parameters command) ≡ as_read command

-- the same, where the numbers of values fit their fields, as those of each value in Rust do
abbrev pub Reads : Capabilities → Option InForce → Command → Type 0
Reads capabilities parameters (Query attributes sql) =
    FitsAttributes attributes → ReadsBack capabilities parameters (Query attributes sql)
Reads capabilities parameters (Execute execution) =
    FitsExecution execution → ReadsBack capabilities parameters (Execute execution)
Reads capabilities parameters (BulkExecute execution) =
    FitsBulk execution → ReadsBack capabilities parameters (BulkExecute execution)
Reads capabilities parameters command = ReadsBack capabilities parameters command

-- attributes that a query can have: none where they aren't in force, else those with names and cells
abbrev pub can_have_attributes : Capabilities → List Attribute → Bool
can_have_attributes capabilities attributes =
    if has_query_attributes capabilities then are_attributes true attributes else length attributes == 0

-- an execution that can be written by what is in force of its statement's parameters
abbrev pub can_execute : Capabilities → Option InForce → Execution → Bool
can_execute capabilities None execution = false
can_execute capabilities (Some parameters) execution = can_be_put capabilities parameters execution

-- the same of a bulk execution
abbrev pub can_execute_bulk : Capabilities → Option InForce → BulkExecution → Bool
can_execute_bulk capabilities None execution = false
can_execute_bulk capabilities (Some parameters) execution = can_put_bulk capabilities parameters execution

-- a command's payload reads otherwise; of values no payload is read as them
abbrev pub DoesNotRead : Capabilities → Option InForce → Command → Type 0
DoesNotRead capabilities parameters (Query attributes sql) = can_have_attributes capabilities attributes ≡ false
DoesNotRead capabilities parameters (Execute execution) = can_execute capabilities parameters execution ≡ false
DoesNotRead capabilities parameters (BulkExecute execution) = can_execute_bulk capabilities parameters execution ≡ false
DoesNotRead capabilities parameters command = ReadsBack capabilities parameters command → ⊥

-- a command may be put: its payload reads as it; or it reads otherwise, and the cause is told; want of memory may
-- stand in place of any answer
abbrev pub Tests : Capabilities → Option InForce → Command → Result (Unit {0}) CommandRefusal → Type 0
Tests capabilities parameters command (Ok _) = Reads capabilities parameters command
Tests capabilities parameters command (Err e) = e ≢ Memory →
    (e ≡ cause_against capabilities parameters command) × DoesNotRead capabilities parameters command

-- a command's payload was appended, and reads as it; or it would read otherwise, and nothing was
abbrev pub Puts : Capabilities → Option InForce → Command → List ℕ → List ℕ → Result (Unit {0}) CommandRefusal → Type 0
Puts capabilities parameters command old new (Ok done) =
    (new ≡ old ++ command_bytes capabilities parameters command) × Tests capabilities parameters command (Ok done)
Puts capabilities parameters command old new (Err e) = (new ≡ old) × Tests capabilities parameters command (Err e)
