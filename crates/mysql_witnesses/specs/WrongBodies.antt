-- Wrong bodies of a connection's calls that readers tried: what a clause says that excludes each.
-- MySQL: Client/Server Protocol, "Connection Lifecycle", "MySQL Packets", "Sequence ID", "ERR_Packet",
-- "COM_STMT_EXECUTE", "COM_STMT_FETCH", "Text Resultset Row"; C API, "mysql_use_result()"; MariaDB: Client/Server
-- Protocol, "COM_STMT_BULK_EXECUTE", 'Progress report' of "ERR_Packet".
use Rattle.std.specs.Prelude.{◌≡◌, ℕ, true, false, List, [], ◌∷◌, None, Ok, Some}
use Rattle.mysql_cells.specs.declared.value.Value.TheVariants.{Bytes}
use Rattle.mysql_columns.specs.Columns.{ColumnDefinition}
use Rattle.mysql_commands.specs.Commands.{Command}
use Rattle.mysql_connection_machine.specs.Machines.{AnswersLent, FindsFault, LendingWorld}
use Rattle.mysql_connection_machine.specs.Writing.{RefusesEvent}
use Rattle.mysql_connection_machine.specs.declared.fault.ConnectionFault.{ConnectionFault}
use Rattle.mysql_connection_machine.specs.declared.lent_event.LentEvent.TheVariants as lent
use Rattle.mysql_connection_machine.specs.declared.put_refusal.PutRefusal.TheVariants.{BadEvent}
use Rattle.mysql_connection_rules.specs.Events.{Event}
use Rattle.mysql_connection_rules.specs.Puts.{is_due, may_end}
use Rattle.mysql_connection_rules.specs.Standing.{Standing}
use Rattle.mysql_connection_rules.specs.Standing.About.{Executing, Nothing}
use Rattle.mysql_connection_rules.specs.Steps.{about_after, after_command, carried_types, changed_by, reply_due}
use Rattle.mysql_connection_rules.specs.Streams.{World, is_early, nothing_came}
use Rattle.mysql_connection_rules.specs.declared.side.Side.TheVariants.{Server}
use Rattle.mysql_connection_state.specs.declared.event.Event.{Event as HeldEvent}
use Rattle.mysql_connection_statements.specs.Statements.{Statement, Statements}
use Rattle.mysql_connection_statements.specs.declared.pending.Pending.{Pending}
use Rattle.mysql_connection_writer.specs.Executions.{execution_by}
use Rattle.mysql_connection_writer.specs.declared.refusal.BadEvent.{BadEvent as Cause}
use Rattle.mysql_const.specs.declared.capabilities.Capabilities.{Capabilities}
use Rattle.mysql_const.specs.declared.column_type.ColumnType.TheVariants.{MYSQL_TYPE_VAR_STRING}
use Rattle.mysql_executions.specs.declared.types.ParameterType.{ParameterType}
use Rattle.mysql_handshake.specs.Capabilities.{both_words}
use Rattle.mysql_reply_events.specs.Events.Event.{ProgressEvent}
use Rattle.mysql_reply_events.specs.declared.context.ReplyKind.TheVariants.{Fetch}
use Rattle.mysql_server_packets.specs.Packets.{ProgressReport}
use Rattle.mysql_witnesses.specs.Puts.{rows_due}
use Rattle.mysql_witnesses.specs.Steps.{two_statements}
use Rattle.mysql_witnesses.specs.Streams.{client_unread, keeping, with_server, world_with}

-- FAULTS

-- What stood before a fault stands behind it. Excluded: a connection that forgets its statements there.
-- MySQL: Client/Server Protocol, "Prepared Statements".
abbrev pub FaultsForgetNothing : Type 0
FaultsForgetNothing = (old new : World) (fault : ConnectionFault) → FindsFault old fault new →
    new.standing.statements ≡ old.standing.statements

-- The first byte of a packet is no fault, for want of memory neither. Excluded: a connection that ends before
-- its first packet is whole. MySQL: Client/Server Protocol, "MySQL Packets".
abbrev pub PacketsAreWaitedFor : Type 0
PacketsAreWaitedFor = (fault : ConnectionFault) (new : World) →
    FindsFault (world_with 0 (keeping 0) (client_unread 0 (1 ∷ []))) fault new → ⊥

-- LAST WORDS

-- an error's packet of this number
abbrev pub error_numbered : ℕ → List ℕ
error_numbered number = 3 ∷ 0 ∷ 0 ∷ number ∷ 0xff ∷ 0 ∷ 4 ∷ []

-- Behind a command an error of the number 1 answers it, and one of 0 is the server's last words. Excluded: an
-- answer that ends the connection. MySQL: Client/Server Protocol, "Sequence ID" and "ERR_Packet".
abbrev pub AnswersAreNoLastWords : Type 0
AnswersAreNoLastWords = (s : Standing) → let behind = record s { number = 1; answers = true } in
    (is_early behind (error_numbered 1) ≡ false) × (is_early behind (error_numbered 0) ≡ true)

-- Behind a command of one packet the server may say them. Excluded: a refusal there.
abbrev pub LastWordsMayBePut : Type 0
LastWordsMayBePut = (w : World) →
    may_end (record w { standing = record w.standing { number = 1; answers = true } }) (Some Server) ≡ true

-- REFUSALS

-- An event that isn't due isn't refused as a bad one. Excluded: that refusal before the other.
abbrev pub BadEventsAreDue : Type 0
BadEventsAreDue = (w : World) (event : Event) (cause : Cause) → RefusesEvent w event (BadEvent cause) →
    is_due w event ≡ true

-- EXECUTIONS

abbrev pub of_text : ParameterType
of_text = record { column_type = MYSQL_TYPE_VAR_STRING; unsigned = false }

-- Where the type in force of a parameter is that of texts, a text goes without it. Excluded: types with each
-- execution. MySQL: Client/Server Protocol, "COM_STMT_EXECUTE" (new_params_bind_flag).
abbrev pub TypesInForceWillDo : Type 0
TypesInForceWillDo = (id : ℕ) → (execution_by (both_words 0 0)
    (Some (record { count = 1; types = of_text ∷ []; long_data = []; broken = false })) id
    (Bytes (0x61 ∷ []) ∷ [])).types ≡ None

-- The types that stand behind the flags of a bulk execution are those that it carries. Excluded: those that an
-- execution would have there. MariaDB: Client/Server Protocol, "COM_STMT_BULK_EXECUTE" (send types to server).
abbrev pub bulk_of_texts : List ℕ
bulk_of_texts = 1 ∷ 0 ∷ 0 ∷ 0 ∷ 0x80 ∷ 0 ∷ 0xfd ∷ 0 ∷ 0 ∷ 1 ∷ 0x61 ∷ []

abbrev pub BulksCarryTheirTypes : Type 0
BulksCarryTheirTypes = (capabilities : Capabilities) →
    carried_types capabilities 0xfa 1 bulk_of_texts ≡ record { parameter_type = of_text; name = [] } ∷ []

-- A fetch of the statement 1 is read by its columns, where 2 was prepared last. Excluded: the columns of the
-- statement that was prepared last. MySQL: Client/Server Protocol, "COM_STMT_FETCH".
abbrev pub FetchesAreReadByTheirStatement : Type 0
FetchesAreReadByTheirStatement = (s : Standing) (one other : Statement) (command : Command) →
    let standing = record s { statements = two_statements one other } in
    after_command standing (0x1c ∷ 1 ∷ 0 ∷ 0 ∷ 0 ∷ 1 ∷ 0 ∷ 0 ∷ 0 ∷ []) command
    ≡ reply_due Fetch one.columns Nothing standing

-- A report of progress doesn't answer an execution, and takes nothing back. Excluded: one behind which an error
-- takes nothing back. MariaDB: Client/Server Protocol, "ERR_Packet" ('Progress report').
abbrev pub ReportsAnswerNothing : Type 0
ReportsAnswerNothing = (p : Pending) (report : ProgressReport) (more : ℕ) (s : Statements) →
    (about_after (Executing p) (ProgressEvent report) ≡ Executing p)
    × (changed_by (Executing p) more (ProgressEvent report) s ≡ s)

-- ROWS

-- Where a row of one chunk comes next the answer is no event of it. Excluded: an event into which each row is
-- copied, so that none is lent. C API, "mysql_use_result()".
abbrev pub ShortRowsAreLent : Type 0
ShortRowsAreLent = (column : ColumnDefinition) (event : HeldEvent) (new : LendingWorld) →
    AnswersLent (with_server (1 ∷ 0 ∷ 0 ∷ 0 ∷ 0xfb ∷ []) (world_with 0 (rows_due column) nothing_came))
    (Ok (Some (lent.Event event))) new → ⊥
