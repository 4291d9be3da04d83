-- What the definitions of events that are put exclude. MySQL: Client/Server Protocol, "Connection Lifecycle",
-- "MySQL Packets", "Sequence ID", "COM_STMT_EXECUTE", "COM_QUERY Response", "Text Resultset Row", "Binary Protocol
-- Value".
use Rattle.std.specs.Prelude.{◌≡◌, ◌≢◌, ℕ, true, false, List, [], ◌∷◌, ◌++◌, Option, None, Ok, Err, Some, pos}
use Rattle.mysql_cells.specs.declared.value.Value.{Value}
use Rattle.mysql_cells.specs.declared.value.Value.TheVariants.{Int, NULL, UInt}
use Rattle.mysql_columns.specs.Columns.{ColumnDefinition}
use Rattle.mysql_commands.specs.Commands.{Execute, Ping, command_at}
use Rattle.mysql_connection_rules.specs.Puts.{is_free, number_for, packets_for}
use Rattle.mysql_connection_machine.specs.Machines.{Machine, new_machine}
use Rattle.mysql_connection_machine.specs.PuttingPackets.{PutsPackets}
use Rattle.mysql_connection_machine.specs.PuttingPayloads.{PutsPayloadOn, RefusesPayload, is_due_of}
use Rattle.mysql_connection_machine.specs.Writing.{PutsOn}
use Rattle.mysql_connection_machine.specs.declared.payload_refusal.PayloadRefusal.{PayloadRefusal}
use Rattle.mysql_connection_machine.specs.declared.payload_refusal.PayloadRefusal.TheVariants.{Held}
use Rattle.mysql_connection_machine.specs.declared.put_refusal.PutRefusal.{PutRefusal}
use Rattle.mysql_connection_rules.specs.Events.{Event}
use Rattle.mysql_connection_rules.specs.Events.Event.{Answer, Asked, Replied}
use Rattle.mysql_connection_rules.specs.Standing as phases
use Rattle.mysql_connection_rules.specs.Standing.{Standing, logged_in}
use Rattle.mysql_connection_rules.specs.Standing.About.{Nothing}
use Rattle.mysql_connection_rules.specs.Steps.{in_phase, parameters_in_question, reply_due, step}
use Rattle.mysql_connection_rules.specs.Streams.{from_login}
use Rattle.mysql_connection_rules.specs.declared.fault.Fault.TheVariants.{BadReply}
use Rattle.mysql_connection_rules.specs.declared.limits.Limits.{Limits}
use Rattle.mysql_connection_rules.specs.declared.side.Side.{Side}
use Rattle.mysql_connection_rules.specs.declared.side.Side.TheVariants.{Client, Server}
use Rattle.mysql_connection_state.specs.declared.event.Event.{Event as HeldEvent}
use Rattle.mysql_connection_statements.specs.Statements.{Statement}
use Rattle.mysql_connection_writer.specs.Commands.{parameters_named}
use Rattle.mysql_connection_writer.specs.Executions.{execution_by}
use Rattle.mysql_connection_writer.specs.Payloads.{payload_of}
use Rattle.mysql_const.specs.declared.capabilities.Capabilities.{Capabilities}
use Rattle.mysql_const.specs.declared.column_type.ColumnType.TheVariants.{MYSQL_TYPE_LONGLONG}
use Rattle.mysql_executions.specs.Executions.{Execution}
use Rattle.mysql_executions.specs.InForce.{InForce}
use Rattle.mysql_handshake.specs.Capabilities.{both_words}
use Rattle.mysql_reply_events.specs.Events.Awaited.{Rows}
use Rattle.mysql_reply_events.specs.Events.Event.{RowEvent}
use Rattle.mysql_reply_events.specs.declared.context.ReplyKind.TheVariants.{Text}
use Rattle.mysql_reply_events.specs.declared.fault.ReplyFault.TheVariants.{BadCount}
use Rattle.mysql_rows.specs.Rows.{Row}
use Rattle.mysql_witnesses.specs.Statements.{statement_with}
use Rattle.mysql_witnesses.specs.Steps.{two_statements}
use Rattle.mysql_witnesses.specs.Streams.{ping}

-- WHEN AN EVENT IS DUE

-- It is not where bytes of its side wait. Excluded: a put before what waits, which was said first.
-- MySQL: Client/Server Protocol, "Connection Lifecycle".
abbrev pub WhatWaitsComesFirst : Type 0
WhatWaitsComesFirst = is_free (record { read = 0; bytes = 0x0e ∷ []; closed = false }) ≡ false

-- Where a command is due, a payload of the server isn't. Excluded: one of either side.
-- MySQL: Client/Server Protocol, "Command Phase".
abbrev pub PayloadsAreOfTheirSide : Type 0
PayloadsAreOfTheirSide = (limits : Limits) →
    is_due_of (new_machine (from_login limits (both_words 0 0))) Server ≡ false

-- NUMBERS

-- A client's answer goes on from the number behind the server's packet, here 2. Excluded: 0, as a command
-- has it. MySQL: Client/Server Protocol, "Sequence ID".
abbrev pub AnswersAreNumberedOn : Type 0
AnswersAreNumberedOn = (s : Standing) (bytes : List ℕ) → number_for (Answer bytes) (record s { number = 2 }) ≡ 2

-- A command's packet has the number that is due, 0, whatever number it had where it came from. Excluded: one
-- that is numbered on from there. MySQL: Client/Server Protocol, "Sequence ID".
abbrev pub CommandsAreNumberedAnew : Type 0
CommandsAreNumberedAnew = (s : Standing) →
    packets_for (Asked Ping) (record s { number = 0 }) (0x0e ∷ []) ≡ 1 ∷ 0 ∷ 0 ∷ 0 ∷ 0x0e ∷ []

-- REFUSALS

-- A refusal changes nothing: where memory ran out too, and where more would be kept than has room. Excluded: a
-- number that goes on, columns that are shared, a command that has changed the statements.
-- MySQL: Client/Server Protocol, "MySQL Packets".
abbrev pub RefusedEventsChangeNothing : Type 0
RefusedEventsChangeNothing = (old new : Machine) (event : Event) (before behind : List ℕ) (cause : PutRefusal) →
    PutsOn old event before (Err cause) new behind → (new.world ≡ old.world) × (behind ≡ before)

abbrev pub RefusedPayloadsChangeNothing : Type 0
RefusedPayloadsChangeNothing = (old new : Machine) (side : Side) (payload before behind : List ℕ)
    (cause : PayloadRefusal) → PutsPayloadOn old side payload before (Err cause) new behind →
    (new.world ≡ old.world) × (behind ≡ before)

-- A payload behind which more would be kept than has room isn't put. Excluded: its event as the answer,
-- where nothing was appended. MySQL: Client/Server Protocol, "Prepared Statements".
abbrev pub WhatIsHeldBackIsNotPut : Type 0
WhatIsHeldBackIsNotPut = (old new : Machine) (side : Side) (payload before behind : List ℕ) (event : HeldEvent) →
    RefusesPayload old.world side payload Held → PutsPayloadOn old side payload before (Ok event) new behind → ⊥

-- WHAT IS PUT

-- an execution of the statement 1
abbrev pub execution_of_number : Execution
execution_of_number = record {
  statement = 1;
  cursor = record { 0 = 0 };
  count_available = false;
  nameless_flags = 0;
  iterations = 1;
  types = None;
  parameters = UInt 1 ∷ [];
  attributes = [];
  rest = [];
}

-- An execution that is made of values has one iteration, no flag without a name and no byte behind its
-- last value. Excluded: an odd one. MySQL: Client/Server Protocol, "COM_STMT_EXECUTE".
abbrev pub ValuesMakeNoOddExecution : Type 0
ValuesMakeNoOddExecution = (capabilities : Capabilities) (parameters : Option InForce) (id : ℕ)
    (values : List Value) →
    ((execution_by capabilities parameters id values).iterations ≡ 1) ×
    (((execution_by capabilities parameters id values).nameless_flags ≡ 0) ×
    ((execution_by capabilities parameters id values).rest ≡ []))

-- An execution is written by what is in force of the statement that it names. Excluded: the parameters of
-- another one, as of that which was prepared last. MySQL: Client/Server Protocol, "COM_STMT_EXECUTE".
abbrev pub ExecutionsAreWrittenByTheirStatement : Type 0
ExecutionsAreWrittenByTheirStatement = (one other : Statement) →
    parameters_named (two_statements one other) (Execute execution_of_number) ≡ Some one.parameters

-- a client that may execute a statement of one unsigned BIGINT
abbrev pub executing : Standing
executing = record (logged_in (both_words 0 0)) {
  statements = record {
    by_id = (
      1,
      statement_with (record {
        count = 1;
        types = record { column_type = MYSQL_TYPE_LONGLONG; unsigned = true } ∷ [];
        long_data = [];
        broken = false;
      }) 0,
    ) ∷ [];
    last = None;
    stored = 0;
  };
}

-- the payload of that execution
abbrev pub execution_payload : List ℕ
execution_payload =
    0x17 ∷ 1 ∷ 0 ∷ 0 ∷ 0 ∷ 0 ∷ 1 ∷ 0 ∷ 0 ∷ 0 ∷ 0 ∷ 0 ∷ 1 ∷ 0 ∷ 0 ∷ 0 ∷ 0 ∷ 0 ∷ 0 ∷ 0 ∷ []

abbrev pub HasThatPayload : Type 0
HasThatPayload = payload_of executing (Asked (Execute execution_of_number)) ≡ Some execution_payload

-- It is read as an execution of the number 1 with a sign, so that the other can't be put: a payload says what
-- it is read as. Excluded: a put of the unsigned number, which is heard as another value.
-- MySQL: Client/Server Protocol, "Binary Protocol Value".
abbrev pub NumbersAreNotPutAsOthers : Type 0
NumbersAreNotPutAsOthers =
    command_at executing.capabilities (parameters_in_question executing.statements execution_payload)
    execution_payload ≡ Execute (record execution_of_number { parameters = Int (pos 1) ∷ [] })

-- Where the first payload of a reply is due, a row's payload is none. Excluded: a row that is put where none is
-- due, behind an event that was taken for a row. MySQL: Client/Server Protocol, "COM_QUERY Response".
abbrev pub RowsAreDueBehindColumns : Type 0
RowsAreDueBehindColumns = step (reply_due Text None Nothing (logged_in (both_words 0 0))) (1 ∷ 0x61 ∷ [])
    ≡ Err (BadReply BadCount)

-- where rows of one column come next
abbrev pub rows_due : ColumnDefinition → Standing
rows_due column = in_phase (phases.Reply (record {
  kind = Text;
  so_far = record { awaited = Rows true; columns = Some (column ∷ []) };
  about = Nothing;
  earlier = 0;
  coming = 0;
  parameters = 0;
})) (logged_in (both_words 0 0))

-- a row of one cell, which is NULL
abbrev pub null_under : ColumnDefinition → Row
null_under column = record { columns = column ∷ []; cells = Some NULL ∷ [] }

-- Where rows of one column come next, a row of another column isn't put. Excluded: its cell under the
-- column that is due, which is read as another row. MySQL: Client/Server Protocol, "Text Resultset Row".
abbrev pub RowsAreNotPutUnderOtherColumns : Type 0
RowsAreNotPutUnderOtherColumns = (m new : Machine) (column other : ColumnDefinition) (before behind : List ℕ) →
    other ≢ column → PutsOn (record m { world = record m.world { standing = rows_due column } })
    (Replied (RowEvent (null_under other))) before (Ok tt) new behind → ⊥

-- PACKETS

-- a client that is logged in, and may send packets of one byte
abbrev pub client_of_bytes : Machine
client_of_bytes = new_machine (from_login (record { client = 1; server = 1; held = 10 }) (both_words 0 0))

-- Of two pings only the first is put, since the server answers it. Excluded: an answer that all ten bytes
-- were taken, by which a caller drops the second. MySQL: Client/Server Protocol, "Command Phase".
abbrev pub PacketsWaitForTheirTurn : Type 0
PacketsWaitForTheirTurn = (new : Machine) (before behind : List ℕ) →
    PutsPackets client_of_bytes Client (ping ++ ping) before (Ok 10) new behind → ⊥
