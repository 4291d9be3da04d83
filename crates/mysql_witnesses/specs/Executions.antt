-- What the definitions of executions and of commands exclude. MySQL: Client/Server Protocol, "Command
-- Phase", "COM_STMT_EXECUTE", "COM_STMT_SEND_LONG_DATA", "COM_STMT_FETCH", "COM_FIELD_LIST"; MariaDB:
-- Client/Server Protocol, "COM_STMT_BULK_EXECUTE"; of errors: MySQL Error Message Reference,
-- ER_MALFORMED_PACKET (1835), ER_UNSUPPORTED_PS (1295).
use Rattle.std.specs.Prelude.{◌≡◌, ℕ, true, false, List, [], ◌∷◌, Option, Some, None, Ok, slice_get}
use Rattle.mysql_cells.specs.declared.value.Value.TheVariants.{Bytes, NULL}
use Rattle.mysql_command_writer.specs.Refusals.{Puts}
use Rattle.mysql_command_writer.specs.Written.{command_bytes}
use Rattle.mysql_commands.specs.Commands.{BulkExecute, ChangeUser, Fetch, FieldList, Other, command_at}
use Rattle.mysql_commands.specs.Replies.{statement_of}
use Rattle.mysql_const.specs.declared.capabilities.Capabilities.{Capabilities}
use Rattle.mysql_const.specs.declared.column_type.ColumnType.TheVariants.{MYSQL_TYPE_NULL, MYSQL_TYPE_VAR_STRING}
use Rattle.mysql_execution_writer.specs.InForce.{PutsInForce, without_types}
use Rattle.mysql_execution_writer.specs.Written.{can_be_put, execution_bytes}
use Rattle.mysql_executions.specs.After.{after_refusal, in_place_of}
use Rattle.mysql_executions.specs.Bulks.{BulkExecution}
use Rattle.mysql_executions.specs.Executions.{Execution}
use Rattle.mysql_executions.specs.InForce.{InForce}
use Rattle.mysql_executions.specs.Unclear.{first_unclear, is_unclear_cell}
use Rattle.mysql_executions.specs.declared.refused.Refused.TheVariants.{Bulk, Execution as AnExecution}
use Rattle.mysql_executions.specs.declared.types.Attribute.{Attribute}
use Rattle.mysql_executions.specs.declared.types.ParameterType.{ParameterType}
use Rattle.mysql_handshake.specs.Capabilities.{both_words}

-- WHAT IS IN FORCE

-- Types of one parameter that an execution carries leave those of the second. Excluded: a statement
-- that has none behind them. MySQL: Client/Server Protocol, "COM_STMT_EXECUTE" (new_params_bind_flag).
abbrev pub LaterTypesStay : Type 0
LaterTypesStay = (carried first second : ParameterType) →
    in_place_of (carried ∷ []) (first ∷ second ∷ []) ≡ carried ∷ second ∷ []

-- An execution that is refused by error 1835 leaves all as it was before it, the long data that
-- waited too. Excluded: a statement that forgets it. MySQL Error Message Reference, ER_MALFORMED_PACKET.
abbrev pub UnreadExecutionsLeaveAll : Type 0
UnreadExecutionsLeaveAll = (carried : ℕ) (before behind : InForce) →
    after_refusal 1835 AnExecution carried before behind ≡ before

-- A bulk execution with types (0x80) that is refused by error 1295 leaves the types as they were
-- before it. Excluded: a statement that keeps those that it carried. MySQL Error Message Reference,
-- ER_UNSUPPORTED_PS; MariaDB: Client/Server Protocol, "COM_STMT_BULK_EXECUTE".
abbrev pub UnknownBulksLeaveTheTypes : Type 0
UnknownBulksLeaveTheTypes = (carried : ℕ) (before behind : InForce) →
    (after_refusal 1295 (Bulk 0x80) carried before behind).types ≡ before.types

-- EXECUTIONS THAT ARE WRITTEN

abbrev pub text_type : ParameterType
text_type = record { column_type = MYSQL_TYPE_VAR_STRING; unsigned = false }

-- a statement of one text, for which long data waits: `a`
abbrev pub waiting : InForce
waiting = record { count = 1; types = text_type ∷ []; long_data = (0, 0x61 ∷ []) ∷ []; broken = false }

-- For a parameter whose long data waits an execution has no bytes, though it holds the same. Excluded: the text
-- once more. MySQL: Client/Server Protocol, "COM_STMT_SEND_LONG_DATA".
abbrev pub WaitingDataIsNotRepeated : Type 0
WaitingDataIsNotRepeated =
    execution_bytes (both_words 0 0) waiting (without_types 1 (Bytes (0x61 ∷ []) ∷ []))
    ≡ 1 ∷ 0 ∷ 0 ∷ 0 ∷ 0 ∷ 1 ∷ 0 ∷ 0 ∷ 0 ∷ 0 ∷ 0 ∷ []

-- No other value is put in its place. Excluded: an execution of `b`, which would be read as one of `a`.
-- MySQL: Client/Server Protocol, "COM_STMT_SEND_LONG_DATA".
abbrev pub NothingElseIsPutForWaitingData : Type 0
NothingElseIsPutForWaitingData = (old new : List ℕ) →
    PutsInForce (both_words 0 0) waiting 1 (Bytes (0x62 ∷ []) ∷ []) old new (Ok true) → ⊥

-- an attribute without a name, NULL
abbrev pub null_attribute : Attribute
null_attribute = record {
  bound_type = record {
    parameter_type = record { column_type = MYSQL_TYPE_NULL; unsigned = false };
    name = [];
  };
  value = NULL;
}

-- an execution of a statement without parameters, with that attribute
abbrev pub attributed : Execution
attributed = record {
  statement = 1;
  cursor = record { 0 = 0 };
  count_available = true;
  nameless_flags = 0;
  iterations = 1;
  types = None;
  parameters = [];
  attributes = null_attribute ∷ [];
  rest = [];
}

-- Attributes stand in an execution with types alone. Excluded: one that says that no types follow,
-- which has none. MySQL: Client/Server Protocol, "COM_STMT_EXECUTE" (parameter_type, parameter_name).
abbrev pub AttributesStandWithTypes : Type 0
AttributesStandWithTypes =
    can_be_put (both_words 0x8000000 0) (record { count = 0; types = []; long_data = []; broken = false })
    attributed ≡ false

-- VALUES THAT SERVERS READ EACH THEIR WAY

-- A length that begins with fb or ff makes a text unclear, fa doesn't. Excluded: a text without bytes that is
-- told as a value. MySQL: Client/Server Protocol, "Protocol::LengthEncodedInteger".
abbrev pub OddLengthsAreUnclear : Type 0
OddLengthsAreUnclear = (bytes : List ℕ) →
    (is_unclear_cell text_type (0xfb ∷ bytes) ≡ true) ×
    ((is_unclear_cell text_type (0xff ∷ bytes) ≡ true) × (is_unclear_cell text_type (0xfa ∷ bytes) ≡ false))

-- Of two texts the second is unclear, from its cell on. Excluded: a mark of the first, and of none.
-- MySQL: Client/Server Protocol, "Binary Protocol Value".
abbrev pub TheFirstUnclearCellIsFound : Type 0
TheFirstUnclearCellIsFound =
    first_unclear 0 0 (Some text_type ∷ Some text_type ∷ []) (1 ∷ 0x61 ∷ 0xff ∷ 7 ∷ []) ≡ Some (1, 0xff ∷ 7 ∷ [])

-- COMMANDS

-- A byte behind the last field of a change of user leaves it one. Excluded: another payload, which names no
-- plugin. MySQL: Client/Server Protocol, "COM_CHANGE_USER".
abbrev pub BytesBehindAChangeOfUserDontCount : Type 0
BytesBehindAChangeOfUserDontCount =
    command_at (both_words 0 0) None (0x11 ∷ 0 ∷ 0 ∷ 0 ∷ 33 ∷ 0 ∷ 7 ∷ []) ≡ ChangeUser (record {
      user = [];
      scramble = [];
      database = [];
      more = Some (record { character_set = 33; plugin = None; attributes = None });
    })

-- A bulk execution is about the statement of the id behind its number. Excluded: a reader that knows
-- of no statement there, and so of no parameters. MariaDB: Client/Server Protocol, "COM_STMT_BULK_EXECUTE".
abbrev pub BulksAreAboutAStatement : Type 0
BulksAreAboutAStatement = statement_of (0xfa ∷ 1 ∷ 0 ∷ 0 ∷ 0 ∷ []) ≡ Some 1

-- A fetch has its statement's id before the number of rows. Excluded: the two exchanged.
-- MySQL: Client/Server Protocol, "COM_STMT_FETCH".
abbrev pub FetchesNameTheirStatementFirst : Type 0
FetchesNameTheirStatementFirst = (capabilities : Capabilities) →
    command_at capabilities None (0x1c ∷ 1 ∷ 0 ∷ 0 ∷ 0 ∷ 2 ∷ 0 ∷ 0 ∷ 0 ∷ []) ≡ Fetch 1 2

-- A byte behind a close makes it another payload. Excluded: a reader that passes over it.
-- MySQL: Client/Server Protocol, "COM_STMT_CLOSE".
abbrev pub NoByteIsLeftBehindACommand : Type 0
NoByteIsLeftBehindACommand = (capabilities : Capabilities) →
    command_at capabilities None (0x19 ∷ 1 ∷ 0 ∷ 0 ∷ 0 ∷ 0 ∷ []) ≡ Other (0x19 ∷ 1 ∷ 0 ∷ 0 ∷ 0 ∷ 0 ∷ [])

-- A bulk execution begins with fa. Excluded: 17, an execution.
-- MariaDB: Client/Server Protocol, "COM_STMT_BULK_EXECUTE".
abbrev pub BulksBeginWithFa : Type 0
BulksBeginWithFa = (capabilities : Capabilities) (parameters : Option InForce) (execution : BulkExecution) →
    slice_get (command_bytes capabilities parameters (BulkExecute execution)) 0 ≡ Some 0xfa

-- A table whose name is a zero isn't asked for. Excluded: its payload, which reads as a table
-- without a name. MySQL: Client/Server Protocol, "COM_FIELD_LIST".
abbrev pub NamesWithZerosAreNotPut : Type 0
NamesWithZerosAreNotPut = (capabilities : Capabilities) (old new : List ℕ) →
    Puts capabilities None (FieldList (0 ∷ []) []) old new (Ok tt) → ⊥

-- A ping isn't put as another payload. Excluded: what is read as the command that it is.
-- MySQL: Client/Server Protocol, "COM_PING".
abbrev pub CommandsAreNotPutAsOthers : Type 0
CommandsAreNotPutAsOthers = (capabilities : Capabilities) (old new : List ℕ) →
    Puts capabilities None (Other (0x0e ∷ [])) old new (Ok tt) → ⊥
