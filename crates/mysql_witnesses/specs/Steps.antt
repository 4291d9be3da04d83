-- What the table of steps excludes: what each payload of a connection says, and what stands behind it.
-- MySQL: Client/Server Protocol, "Connection Phase", "Command Phase", "Caching SHA-2 Pluggable
-- Authentication", "COM_CHANGE_USER", "COM_BINLOG_DUMP", "COM_STMT_PREPARE Response", "COM_STMT_EXECUTE";
-- MariaDB: Client/Server Protocol, "Connecting", "COM_STMT_EXECUTE" (statement id).
use Rattle.std.specs.Prelude.{◌≡◌, ◌+◌, ℕ, true, false, List, [], ◌∷◌, None, Err, Some}
use Rattle.mysql_auth.specs.Plugins.Plugin.{NativePassword}
use Rattle.mysql_authentication.specs.Events.Authentication.{Accepted, AuthMore}
use Rattle.mysql_columns.specs.Extended.{ExtendedDefinition}
use Rattle.mysql_commands.specs.Commands.{Command, Execute, command_at}
use Rattle.mysql_connection_rules.specs.Standing as phases
use Rattle.mysql_connection_rules.specs.Standing.{InReply, Standing}
use Rattle.mysql_connection_rules.specs.Standing.About.{Nothing, Preparing, Streaming}
use Rattle.mysql_connection_rules.specs.Steps.{after_authentication, after_command, after_event, authentication_step}
use Rattle.mysql_connection_rules.specs.Steps.{changed_by, parameters_in_question, reply_due, sized}
use Rattle.mysql_connection_rules.specs.declared.exchange.Exchange.TheVariants.{BareChange, ChangeUser, Login}
use Rattle.mysql_connection_rules.specs.declared.fault.Fault.TheVariants.{BadGreeting}
use Rattle.mysql_connection_rules.specs.declared.reason.Reason.TheVariants.{Dump}
use Rattle.mysql_connection_statements.specs.Statements.{Statement, Statements, no_statements, prepared_as}
use Rattle.mysql_connection_statements.specs.Statements.{statement_at}
use Rattle.mysql_handshake.specs.Capabilities.{both_words}
use Rattle.mysql_ok_packets.specs.OkPackets.{OkPacket}
use Rattle.mysql_reply_events.specs.Events as awaiting
use Rattle.mysql_reply_events.specs.Events.{ReplySoFar}
use Rattle.mysql_reply_events.specs.Events.Event.{ColumnEvent, ErrorEvent, PreparedEvent}
use Rattle.mysql_reply_events.specs.declared.context.ReplyKind.TheVariants.{Binary}
use Rattle.mysql_server_packets.specs.Packets.{PrepareOk, ServerError}

-- LOGGING IN

-- `01 03` of mysql_native_password is that plugin's data, and the client answers it. Excluded: the
-- fast path of another plugin, behind which the server speaks once more.
-- MySQL: "Caching SHA-2 Pluggable Authentication" (fast authentication).
abbrev pub TheFastPathIsOfOnePlugin : Type 0
TheFastPathIsOfOnePlugin = (s : Standing) →
    (after_authentication Login (record s { plugin = Some NativePassword }) (AuthMore (3 ∷ []))).phase
    ≡ phases.Answer Login

-- Behind a change of user that was its number alone, a payload with 0a begins a new greeting, which isn't
-- read. Excluded: a plugin's data. MariaDB: Client/Server Protocol, "Connecting".
abbrev pub NewGreetingsAreNoData : Type 0
NewGreetingsAreNoData = (s : Standing) (bytes : List ℕ) →
    authentication_step BareChange s (10 ∷ bytes) ≡ Err BadGreeting

-- Behind a change of user no statement stands. Excluded: statements that are kept over it.
-- MySQL: Client/Server Protocol, "COM_CHANGE_USER".
abbrev pub ChangesOfUserCloseStatements : Type 0
ChangesOfUserCloseStatements = (s : Standing) (command : Command) →
    (after_command s (0x11 ∷ []) command).statements ≡ no_statements

-- Behind the OK of a change of user a command is due, whatever is in force. Excluded: a connection that
-- is over there, as behind a login where both sides compress. MySQL: Client/Server Protocol, "Compression".
abbrev pub ChangesOfUserGoOn : Type 0
ChangesOfUserGoOn = (s : Standing) (ok : OkPacket) →
    (after_authentication ChangeUser s (Accepted ok)).phase ≡ phases.Command

-- COMMANDS

-- A bulk execution that isn't in force leaves the statements. Excluded: one whose types are in force behind
-- it, and one by which long data goes. MariaDB: Client/Server Protocol, "COM_STMT_BULK_EXECUTE".
abbrev pub UnagreedBulksChangeNothing : Type 0
UnagreedBulksChangeNothing = (s : Standing) (body : List ℕ) (command : Command) →
    (after_command (record s { capabilities = both_words 0 0 }) (0xfa ∷ body) command).statements ≡ s.statements

-- two statements, of which the second was prepared last
abbrev pub two_statements : (one other : Statement) → Statements
two_statements one other = record { by_id = (1, one) ∷ (2, other) ∷ []; last = Some 2; stored = 0 }

-- the front of an execution of the statement 1
abbrev pub execution_of_1 : List ℕ
execution_of_1 = 0x17 ∷ 1 ∷ 0 ∷ 0 ∷ 0 ∷ 0 ∷ 1 ∷ 0 ∷ 0 ∷ 0 ∷ []

-- An execution is read by what is in force of the statement that it names. Excluded: the types of another
-- statement, as of that which was prepared last. MySQL: Client/Server Protocol, "COM_STMT_EXECUTE".
abbrev pub ExecutionsAreReadByTheirStatement : Type 0
ExecutionsAreReadByTheirStatement = (one other : Statement) →
    parameters_in_question (two_statements one other) execution_of_1 ≡ Some one.parameters

-- An execution of a statement without parameters is one. Excluded: another payload, as which it is read
-- where nothing is known of its statement. MySQL: Client/Server Protocol, "COM_STMT_EXECUTE".
abbrev pub KnownExecutionsAreRead : Type 0
KnownExecutionsAreRead = (text : List ℕ) (size : ℕ) (other : Statement) →
    command_at (both_words 0 0)
    (parameters_in_question (two_statements (prepared_as text 0 size) other) execution_of_1) execution_of_1
    ≡ Execute (record {
      statement = 1;
      cursor = record { 0 = 0 };
      count_available = false;
      nameless_flags = 0;
      iterations = 1;
      types = None;
      parameters = [];
      attributes = [];
      rest = [];
    })

-- the front of an execution of the statement 1 with the flag 40, no iteration, and a byte behind it
abbrev pub odd_execution_of_1 : List ℕ
odd_execution_of_1 = 0x17 ∷ 1 ∷ 0 ∷ 0 ∷ 0 ∷ 0x40 ∷ 0 ∷ 0 ∷ 0 ∷ 0 ∷ 0xff ∷ []

-- Such an execution is one, with what is odd of it. Excluded: another payload, by which a byte would hide
-- the statement. MySQL: Client/Server Protocol, "COM_STMT_EXECUTE".
abbrev pub OddExecutionsAreRead : Type 0
OddExecutionsAreRead = (text : List ℕ) (size : ℕ) (other : Statement) →
    command_at (both_words 0 0)
    (parameters_in_question (two_statements (prepared_as text 0 size) other) odd_execution_of_1) odd_execution_of_1
    ≡ Execute (record {
      statement = 1;
      cursor = record { 0 = 0 };
      count_available = false;
      nameless_flags = 0x40;
      iterations = 0;
      types = None;
      parameters = [];
      attributes = [];
      rest = 0xff ∷ [];
    })

-- The reply to an execution is read as binary, also where its statement isn't known. Excluded: a query's,
-- whose rows are text. MySQL: Client/Server Protocol, "COM_STMT_EXECUTE Response".
abbrev pub ExecutionsHaveBinaryReplies : Type 0
ExecutionsHaveBinaryReplies = (s : Standing) (command : Command) →
    after_command s (0x17 ∷ []) command ≡ reply_due Binary None Nothing s

-- REPLIES

-- A statement has the id that the server gives it, here 7. Excluded: an order of one's own, in which it
-- would be the first. MySQL: Client/Server Protocol, "COM_STMT_PREPARE Response" (statement_id).
abbrev pub IdsAreTheServers : Type 0
IdsAreTheServers = (text : List ℕ) (size more : ℕ) (p : PrepareOk) →
    statement_at
    (changed_by (Preparing text size) more (PreparedEvent (record p { statement_id = 7 }) true) no_statements) 7
    ≡ Some (prepared_as text p.num_params (size + more))

-- Behind an error that answers a request for a dump a command is due. Excluded: a connection that is over,
-- as it is behind the dump's first event. MySQL: Client/Server Protocol, "COM_BINLOG_DUMP".
abbrev pub RefusedDumpsGoOn : Type 0
RefusedDumpsGoOn = (r : InReply) (so_far : ReplySoFar) (size : ℕ) (error : ServerError) (s : Standing) →
    (after_event (record r { about = Streaming Dump }) size (ErrorEvent error)
    (record so_far { awaited = awaiting.Nothing }) s).phase ≡ phases.Command

-- A column of a result counts as much as its payload. Excluded: one that is kept and counts nothing, so that
-- more is held than the limit leaves. MySQL: Client/Server Protocol, "Column Definition".
abbrev pub ColumnsCount : Type 0
ColumnsCount = (r : InReply) (column : ExtendedDefinition) (size : ℕ) →
    (sized (ColumnEvent column) size (record r { parameters = 0 })).coming ≡ r.coming + size
