-- Words of the crate's own body: what the types of a command's values hold.
-- MySQL: Client/Server Protocol, "Binary Protocol Value".
use Rattle.std.specs.Prelude.{◌<◌, ◌^◌, length}
use Rattle.mysql_cells.specs.Values.{FitsFields}
use Rattle.mysql_commands.specs.Commands.{BulkExecute, Close, Command, Execute, Fetch, LongData}
use Rattle.mysql_commands.specs.Commands.{Query, ResetStatement}
use Rattle.mysql_execution_writer.specs.Laws.{FitsAttributes, FitsBulk, FitsExecution}
use Rattle.mysql_executions.specs.declared.types.Attribute.{Attribute}

abbrev pub FitsAttribute : Attribute → Type 0
FitsAttribute a = FitsFields a.value × (length a.bound_type.name < 2 ^ 64)

abbrev pub ValuesFit : Command → Type 0
ValuesFit (Query attributes sql) = FitsAttributes attributes
ValuesFit (Execute execution) = FitsExecution execution
ValuesFit (BulkExecute execution) = FitsBulk execution
ValuesFit command = Unit {0}

-- The id of a statement, where a command has one of its own.
abbrev pub IdFits : Command → Type 0
IdFits (Execute execution) = execution.statement < 2 ^ 32
IdFits (BulkExecute execution) = execution.statement < 2 ^ 32
IdFits (LongData id place bytes) = id < 2 ^ 32
IdFits (Close id) = id < 2 ^ 32
IdFits (ResetStatement id) = id < 2 ^ 32
IdFits (Fetch id rows) = id < 2 ^ 32
IdFits command = Unit {0}
