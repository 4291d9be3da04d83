-- The table of steps: in each phase, whose payload is due, what it says, and what stands behind it.
-- MySQL: Client/Server Protocol, "Connection Phase", "Command Phase" and "Connection Lifecycle";
-- MariaDB: Client/Server Protocol, "Connecting", "2 - Text Protocol", "3 - Binary Protocol
-- (Prepared Statements)" and "Replication Protocol".
use Rattle.std.specs.Prelude.{ℕ, ◌+◌, ◌-◌, Bool, true, false, not, ◌==◌, ◌&&◌, ◌||◌, if◌then◌else◌}
use Rattle.std.specs.Prelude.{List, [], ◌∷◌, Option, Some, None, Result, Ok, Err, bytes_eq}
use Rattle.std.specs.Prelude.{unwrap_or}
use Rattle.std.specs.Option.{option_and_then, option_map}
use Rattle.mysql_auth.specs.Packets.{SwitchFields}
use Rattle.mysql_auth.specs.Plugins.{Plugin, plugin_named, without_zero}
use Rattle.mysql_auth.specs.Plugins.Plugin.{CachingSha2, OldPassword}
use Rattle.mysql_authentication.specs.Events.{Authentication as AuthenticationSaid}
use Rattle.mysql_authentication.specs.Events.{Greeting as GreetingSaid}
use Rattle.mysql_authentication.specs.Events.{Login, Response as ResponseSaid, first_fields}
use Rattle.mysql_authentication.specs.Events.{login_plugin}
use Rattle.mysql_authentication.specs.Events.Authentication.{Accepted, AuthMore, AuthSwitch, Denied}
use Rattle.mysql_authentication.specs.Events.Authentication.{NextFactor}
use Rattle.mysql_authentication.specs.Events.Authentication.{OldAuthSwitch, PluginData}
use Rattle.mysql_authentication.specs.Events.Greeting.{Greeted, Rejected}
use Rattle.mysql_authentication.specs.Events.Response.{LoggedIn, SecureRequest}
use Rattle.mysql_authentication.specs.Readings.{authentication_at, greeting_at, response_at}
use Rattle.mysql_authentication.specs.declared.fault.LoginFault.{LoginFault}
use Rattle.mysql_authentication.specs.declared.fault.LoginFault.TheVariants as login_faults
use Rattle.mysql_columns.specs.Columns.{ColumnDefinition}
use Rattle.mysql_commands.specs.Commands as commands
use Rattle.mysql_commands.specs.Commands.{Command, command_at}
use Rattle.mysql_commands.specs.Replies.{reply_to, statement_of}
use Rattle.mysql_commands.specs.declared.reply.Reply.{Reply as ReplyForm}
use Rattle.mysql_commands.specs.declared.reply.Reply.TheVariants as forms
use Rattle.mysql_const.specs.declared.capabilities.Capabilities.{Capabilities}
use Rattle.mysql_executions.specs.After.{bulk_types, execution_types}
use Rattle.mysql_executions.specs.Bulks.{bulk_head}
use Rattle.mysql_executions.specs.InForce.{InForce}
use Rattle.mysql_executions.specs.Types.{has_bulk_operations}
use Rattle.mysql_executions.specs.declared.refused.Refused.{Refused}
use Rattle.mysql_executions.specs.declared.refused.Refused.TheVariants as refused
use Rattle.mysql_executions.specs.declared.types.BoundType.{BoundType}
use Rattle.mysql_field_constants.specs.Flags.{contains}
use Rattle.mysql_handshake.specs.Capabilities.{in_force, offered}
use Rattle.mysql_reply_events.specs.declared.context.Context.{Context}
use Rattle.mysql_reply_events.specs.declared.context.ReplyKind.{ReplyKind}
use Rattle.mysql_reply_events.specs.declared.context.ReplyKind.TheVariants as kinds
use Rattle.mysql_reply_events.specs.declared.fault.ReplyFault.{ReplyFault}
use Rattle.mysql_reply_events.specs.declared.fault.ReplyFault.TheVariants as reply_faults
use Rattle.mysql_reply_events.specs.Events.{Awaited, ReplySoFar}
use Rattle.mysql_reply_events.specs.Events as awaiting
use Rattle.mysql_reply_events.specs.Events.{Event as ReplySaid}
use Rattle.mysql_reply_events.specs.Events.Event.{ColumnEvent, CountEvent, ErrorEvent, LineEvent}
use Rattle.mysql_reply_events.specs.Events.Event.{OkEvent, PreparedEvent}
use Rattle.mysql_reply_events.specs.Events.Event.{ProgressEvent}
use Rattle.mysql_reply_events.specs.Table.{event_at, file_data_at, fresh}
use Rattle.mysql_connection_statements.specs.declared.pending.Pending.{Pending}
use Rattle.mysql_connection_rules.specs.declared.exchange.Exchange.{Exchange}
use Rattle.mysql_connection_rules.specs.declared.exchange.Exchange.TheVariants as exchanges
use Rattle.mysql_connection_rules.specs.declared.fault.Fault.{Fault}
use Rattle.mysql_connection_rules.specs.declared.fault.Fault.TheVariants as faults
use Rattle.mysql_connection_rules.specs.declared.reason.Reason.{Reason}
use Rattle.mysql_connection_rules.specs.declared.reason.Reason.TheVariants as reasons
use Rattle.mysql_connection_rules.specs.declared.side.Side.{Side}
use Rattle.mysql_connection_rules.specs.declared.side.Side.TheVariants.{Client, Server}
use Rattle.mysql_connection_rules.specs.Events.{Event}
use Rattle.mysql_connection_rules.specs.Events as events
use Rattle.mysql_connection_rules.specs.Standing.{About, InReply, Phase, Standing}
use Rattle.mysql_connection_statements.specs.Statements.{Statement, Statements, after_close}
use Rattle.mysql_connection_statements.specs.Statements.{after_prepared}
use Rattle.mysql_connection_statements.specs.Statements.{change_at, counted, executed}
use Rattle.mysql_connection_statements.specs.Statements.{forgetting_last, having_columns}
use Rattle.mysql_connection_statements.specs.Statements.{is_reset, no_statements, pending_of}
use Rattle.mysql_connection_statements.specs.Statements.{prepared_as, resolved}
use Rattle.mysql_connection_statements.specs.Statements.{statement_at, taken_back, with_long_data}
use Rattle.mysql_connection_statements.specs.Statements.{with_statement}
use Rattle.mysql_connection_rules.specs.Standing.About.{Executing, Nothing, OfStatement, Preparing}
use Rattle.mysql_connection_rules.specs.Standing.About.{Resetting, Streaming}
use Rattle.mysql_connection_rules.specs.Standing as phases

-- What a payload says, and what stands behind it; or why it has no place there.
abbrev pub Step : Type 0
Step = Result (Event × Standing) Fault

-- A payload that was read says this, and leads there.
abbrev pub says : {X : Type 0} → (X → Event) → (X → Standing) → Result X Fault → Step
says event after (Ok x) = Ok (event x, after x)
says event after (Err fault) = Err fault

-- WHOSE PAYLOAD IS DUE

abbrev pub turn_in_reply : Awaited → Side
turn_in_reply awaiting.FileData = Client
turn_in_reply awaited = Server

abbrev pub turn : Phase → Option Side
turn phases.Greeting = Some Server
turn phases.Response = Some Client
turn (phases.Authentication exchange) = Some Server
turn (phases.Answer exchange) = Some Client
turn phases.Command = Some Client
turn (phases.Reply r) = Some (turn_in_reply r.so_far.awaited)
turn (phases.Over reason) = None

abbrev pub in_phase : Phase → Standing → Standing
in_phase phase s = record s { phase = phase }

abbrev pub over : Reason → Standing → Standing
over reason s = in_phase (phases.Over reason) s

-- LOGGING IN

abbrev pub login_fault : LoginFault → Fault
login_fault login_faults.OldProtocol = faults.OldProtocol
login_fault login_faults.BadGreeting = faults.BadGreeting
login_fault login_faults.BadLogin = faults.BadLogin
login_fault login_faults.BadSwitch = faults.BadSwitch
login_fault login_faults.BadHeader = faults.BadReply reply_faults.BadHeader
login_fault login_faults.BadOk = faults.BadReply reply_faults.BadOk
login_fault login_faults.BadError = faults.BadReply reply_faults.BadError
login_fault login_faults.Memory = faults.Memory

abbrev pub of_login : {X : Type 0} → Result X LoginFault → Result X Fault
of_login (Ok x) = Ok x
of_login (Err fault) = Err (login_fault fault)

-- The server refuses the connection, or greets and says what it can do.
abbrev pub after_greeting : Standing → GreetingSaid → Standing
after_greeting s (Rejected error) = over reasons.Rejected s
after_greeting s (Greeted p) = record s {
  phase = phases.Response;
  offered = offered p.capabilities p.mariadb_ext_capabilities;
}

-- The client asks for TLS, or logs in: now the capabilities of both are in force, and the plugin
-- that it names.
abbrev pub after_login : Standing → Login → Standing
after_login s login = record s {
  phase = phases.Authentication exchanges.Login;
  capabilities = in_force s.offered
      (offered (first_fields login).capabilities (first_fields login).mariadb_capabilities);
  plugin = login_plugin login;
}

abbrev pub after_response : Standing → ResponseSaid → Standing
after_response s (SecureRequest request) = over reasons.Secure s
after_response s (LoggedIn login) = after_login s login

-- What follows a login is compressed. (MySQL: "Compression"; the capabilities COMPRESS and
-- ZSTD_COMPRESSION_ALGORITHM.)
abbrev pub is_compressed : Capabilities → Bool
is_compressed capabilities = contains capabilities.protocol.0 0x20 ||
    contains capabilities.protocol.0 0x4000000

-- Behind a login's error the connection is over; behind one of a change of user it goes on.
abbrev pub after_denial : Exchange → Standing → Standing
after_denial exchanges.Login s = over reasons.Denied s
after_denial exchange s = in_phase phases.Command s

-- Once the server has answered a change of user that was its number alone, it is as any other.
abbrev pub answered : Exchange → Exchange
answered exchanges.Login = exchanges.Login
answered exchange = exchanges.ChangeUser

abbrev pub with_plugin : Exchange → Option Plugin → Standing → Standing
with_plugin exchange plugin s =
    record s { phase = phases.Answer (answered exchange); plugin = plugin }

-- The plugin that caches SHA-256 was content with what it had: the server speaks once more. (MySQL:
-- "Caching SHA-2 Pluggable Authentication", 'fast authentication'.)
abbrev pub is_caching : Option Plugin → Bool
is_caching (Some CachingSha2) = true
is_caching plugin = false

abbrev pub is_fast : Option Plugin → List ℕ → Bool
is_fast plugin bytes = is_caching plugin && bytes_eq bytes (3 ∷ [])

-- The plugin that a request names.
abbrev pub plugin_asked : SwitchFields → Plugin
plugin_asked p = plugin_named (without_zero p.auth_plugin)

-- Behind a login's OK what follows may be compressed. Behind a change of user the connection goes on as
-- it did before.
abbrev pub after_acceptance : Exchange → Standing → Standing
after_acceptance exchanges.Login s =
    if is_compressed s.capabilities then over reasons.Compressed s else in_phase phases.Command s
after_acceptance exchange s = in_phase phases.Command s

abbrev pub after_authentication : Exchange → Standing → AuthenticationSaid → Standing
after_authentication exchange s (Accepted ok) = after_acceptance exchange s
after_authentication exchange s (Denied error) = after_denial exchange s
after_authentication exchange s (AuthSwitch p) = with_plugin exchange (Some (plugin_asked p)) s
after_authentication exchange s OldAuthSwitch = with_plugin exchange (Some OldPassword) s
after_authentication exchange s (AuthMore bytes) =
    if is_fast s.plugin bytes then in_phase (phases.Authentication (answered exchange)) s
    else with_plugin exchange s.plugin s
after_authentication exchange s (NextFactor p) = with_plugin exchange (Some (plugin_asked p)) s
after_authentication exchange s (PluginData bytes) = with_plugin exchange s.plugin s

-- Behind a change of user that was its number alone MariaDB greets anew, which isn't read.
abbrev pub begins_greeting : List ℕ → Bool
begins_greeting [] = false
begins_greeting (byte ∷ bytes) = byte == 10

abbrev pub greets_anew : Exchange → List ℕ → Bool
greets_anew exchanges.BareChange payload = begins_greeting payload
greets_anew exchange payload = false

abbrev pub authentication_step : Exchange → Standing → List ℕ → Step
authentication_step exchange s payload =
    if greets_anew exchange payload then Err faults.BadGreeting
    else says events.Authentication (after_authentication exchange s)
    (of_login (authentication_at s.capabilities.protocol.0 payload))

-- COMMANDS

-- The statement that a command is about, by its id.
abbrev pub id_in_question : Statements → List ℕ → Option ℕ
id_in_question s payload = option_and_then (resolved s) (statement_of payload)

abbrev pub statement_in_question : Statements → List ℕ → Option Statement
statement_in_question s payload = option_and_then (statement_at s) (id_in_question s payload)

abbrev pub parameters_in_question : Statements → List ℕ → Option InForce
parameters_in_question s payload =
    option_map (λ statement. statement.parameters) (statement_in_question s payload)

abbrev pub with_statements : Statements → Standing → Standing
with_statements statements s = record s { statements = statements }

-- A reply is due, of which no payload came.
abbrev pub reply_due : ReplyKind → Option (List ColumnDefinition) → About → Standing → Standing
reply_due kind columns about s = in_phase (phases.Reply (record {
  kind = kind;
  so_far = fresh columns;
  about = about;
  earlier = 0;
  coming = 0;
  parameters = 0;
})) s

-- The types that an execution carries, by its number and what stands behind it.
abbrev pub carried_types : Capabilities → ℕ → ℕ → List ℕ → List BoundType
carried_types capabilities number count body =
    if number == 0xfa then bulk_types count body else execution_types capabilities count body

-- How a refusal takes an execution back.
abbrev pub refused_as : ℕ → List ℕ → Refused
refused_as number body =
    if number == 0xfa
    then refused.Bulk (unwrap_or (option_map (λ head. head.flags) (bulk_head body)) 0)
    else refused.Execution

-- Until the reply comes it is kept what was in force before.
abbrev pub about_execution : ℕ → Option Pending → About
about_execution id None = OfStatement id
about_execution id (Some pending) = Executing pending

abbrev pub after_executing : ℕ → Statement → Refused → List BoundType → Standing → Standing
after_executing id statement refused types s =
    reply_due kinds.Binary statement.columns
    (about_execution id (pending_of id refused types statement))
    (with_statements (with_statement id (executed types statement) s.statements) s)

-- A bulk execution where MariaDB's aren't in force: it is answered before any statement is looked for.
-- (MariaDB: "COM_STMT_BULK_EXECUTE", the capability MARIADB_CLIENT_STMT_BULK_OPERATIONS.)
abbrev pub is_unagreed_bulk : Capabilities → ℕ → Bool
is_unagreed_bulk capabilities number = (number == 0xfa) && not (has_bulk_operations capabilities)

-- An execution of the statement of this id; of one that isn't known there is only a reply.
abbrev pub execution_by_id : ℕ → List ℕ → Option ℕ → Option Statement → Standing → Standing
execution_by_id number body (Some id) (Some statement) s =
    after_executing id statement (refused_as number body)
    (carried_types s.capabilities number statement.parameters.count body) s
execution_by_id number body id statement s = reply_due kinds.Binary None Nothing s

-- An execution, by its number and what stands behind it; a bulk one that isn't in force is about no
-- statement and changes nothing.
abbrev pub execution_of : ℕ → List ℕ → Option ℕ → Option Statement → Standing → Standing
execution_of number body id statement s =
    if is_unagreed_bulk s.capabilities number then reply_due kinds.Binary None Nothing s
    else execution_by_id number body id statement s

-- A command changes the statement that it is about, where that is known.
abbrev pub changing : (Statement → Statement) → Option ℕ → Standing → Standing
changing change None s = s
changing change (Some id) s = with_statements (change_at id change s.statements) s

abbrev pub after_data : Option ℕ → List ℕ → Command → Standing → Standing
after_data id payload (commands.LongData number place bytes) s =
    changing (with_long_data place bytes (counted payload)) id s
after_data id payload command s = s

abbrev pub closing : Option ℕ → Standing → Standing
closing None s = s
closing (Some id) s = with_statements (after_close id s.statements) s

-- The plugin that a change of user names.
abbrev pub changed_plugin : Command → Option Plugin
changed_plugin (commands.ChangeUser login) = option_and_then (λ more. more.plugin) login.more
changed_plugin command = None

abbrev pub exchange_of : List ℕ → Exchange
exchange_of (number ∷ []) = exchanges.BareChange
exchange_of payload = exchanges.ChangeUser

abbrev pub after_change : List ℕ → Command → Standing → Standing
after_change payload command s = record s {
  phase = phases.Authentication (exchange_of payload);
  plugin = changed_plugin command;
  statements = no_statements;
}

abbrev pub text_of : Command → List ℕ
text_of (commands.Prepare sql) = sql
text_of command = []

abbrev pub after_prepare : List ℕ → Command → Standing → Standing
after_prepare payload command s =
    reply_due kinds.Prepare None (Preparing (text_of command) (counted payload))
    (with_statements (forgetting_last s.statements) s)

-- The form of the reply, where a command changes nothing before it.
abbrev pub kind_of : ReplyForm → ReplyKind
kind_of forms.Text = kinds.Text
kind_of forms.Binary = kinds.Binary
kind_of forms.Prepared = kinds.Prepare
kind_of forms.Line = kinds.Line
kind_of forms.First = kinds.Line
kind_of forms.Columns = kinds.FieldList
kind_of forms.Rows = kinds.Fetch
kind_of form = kinds.Plain

abbrev pub about_by : ℕ → About
about_by number =
    if number == 0x1f then Resetting
    else if number == 0x20 then Streaming reasons.Clone
    else if (number == 0x12) || ((number == 0x13) || (number == 0x1e)) then Streaming reasons.Dump
    else Nothing

abbrev pub after_other : ℕ → List ℕ → Standing → Standing
after_other number payload s = reply_due (kind_of (reply_to payload)) None (about_by number) s

-- What a command changes, and what is due behind it, by its number; it does so too where it isn't
-- laid out as it should be, by the fields in front that can be read.
abbrev pub by_number : ℕ → List ℕ → Option ℕ → Option Statement → List ℕ → Command → Standing →
    Standing
by_number number body id statement payload command s =
    if number == 0x01 then over reasons.Quit s
    else if number == 0x11 then after_change payload command s
    else if number == 0x16 then after_prepare payload command s
    else if (number == 0x17) || (number == 0xfa) then execution_of number body id statement s
    else if number == 0x18 then in_phase phases.Command (after_data id payload command s)
    else if number == 0x19 then in_phase phases.Command (closing id s)
    else if number == 0x1a then reply_due kinds.Plain None Nothing (changing is_reset id s)
    else if number == 0x1c then reply_due kinds.Fetch (option_and_then (λ x. x.columns) statement)
    Nothing s
    else after_other number payload s

abbrev pub after_command : Standing → List ℕ → Command → Standing
after_command s [] command = reply_due kinds.Plain None Nothing s
after_command s (number ∷ body) command =
    by_number number body (id_in_question s.statements (number ∷ body))
    (statement_in_question s.statements (number ∷ body)) (number ∷ body) command s

abbrev pub command_step : Standing → List ℕ → Step
command_step s payload =
    says events.Asked (after_command s payload)
    (Ok (command_at s.capabilities (parameters_in_question s.statements payload) payload))

-- REPLIES

abbrev pub context_of : Standing → InReply → Context
context_of s r = record { kind = r.kind; capabilities = s.capabilities }

-- The columns that are kept: at a count those of the result before go on being kept until the new
-- ones stand. Of a statement that is being prepared the parameters come first, which aren't kept.
abbrev pub column_came : ℕ → InReply → InReply
column_came size r =
    if r.parameters == 0 then record r { coming = r.coming + size } else record r {
      parameters =
          r.parameters - 1;
    }

abbrev pub sized : ReplySaid → ℕ → InReply → InReply
sized (CountEvent n true) size r = record r { earlier = r.coming; coming = 0 }
sized (PreparedEvent p follow) size r = record r { parameters = if follow then p.num_params else 0 }
sized (ColumnEvent column) size r = column_came size r
sized event size r = r

-- What an event changes of the statements: one was prepared, an execution was refused, the session
-- begins anew.
abbrev pub changed_by : About → ℕ → ReplySaid → Statements → Statements
changed_by (Preparing text size) more (PreparedEvent p follow) s =
    after_prepared p.statement_id (prepared_as text p.num_params (size + more)) s
changed_by (Executing p) more (ErrorEvent error) s =
    change_at p.id (taken_back error.error_code p) s
changed_by Resetting more (OkEvent ok) s = no_statements
changed_by about more event s = s

-- What the reply is about behind an event. A report of progress doesn't answer an execution.
abbrev pub about_after : About → ReplySaid → About
about_after (Preparing text size) (PreparedEvent p follow) = OfStatement p.statement_id
about_after (Executing p) (ProgressEvent report) = Executing p
about_after (Executing p) event = OfStatement p.id
about_after about event = about

-- A reply is whole: the columns that stand are those that its statement has.
abbrev pub with_columns : InReply → About → Statements → Statements
with_columns r (OfStatement id) s = change_at id (having_columns r.so_far.columns r.coming) s
with_columns r about s = s

-- Where a stream of its own follows, the connection is over; else a command is due.
abbrev pub phase_behind : About → ReplySaid → Phase
phase_behind (Streaming reason) (LineEvent bytes) = phases.Over reason
phase_behind about event = phases.Command

abbrev pub behind_reply : About → ReplySaid → Standing → Standing
behind_reply about event s = in_phase (phase_behind about event) s

abbrev pub is_whole : Awaited → Bool
is_whole awaiting.Nothing = true
is_whole awaited = false

abbrev pub after_part : InReply → ReplySaid → Standing → Standing
after_part r event s =
    if is_whole r.so_far.awaited
    then behind_reply r.about event (with_statements (with_columns r r.about s.statements) s)
    else in_phase (phases.Reply r) s

-- Behind an event of a reply that came so far.
abbrev pub reply_after : InReply → ℕ → ReplySaid → ReplySoFar → InReply
reply_after r size event so_far =
    record (sized event size (record r { so_far = so_far })) { about = about_after r.about event }

abbrev pub after_event : InReply → ℕ → ReplySaid → ReplySoFar → Standing → Standing
after_event r size event so_far s =
    after_part (reply_after r size event so_far) event
    (with_statements (changed_by r.about size event s.statements) s)

abbrev pub of_reply : {X : Type 0} → Result X ReplyFault → Result X Fault
of_reply (Ok x) = Ok x
of_reply (Err reply_faults.Memory) = Err faults.Memory
of_reply (Err fault) = Err (faults.BadReply fault)

abbrev pub reply_step : InReply → Standing → List ℕ → Step
reply_step r s payload =
    says (λ x. events.Replied x.0) (λ x. after_event r (counted payload) x.0 x.1 s)
    (of_reply (event_at (context_of s r) r.so_far payload))

-- Bytes of the client's file; an empty payload ends it, and the reply goes on.
abbrev pub file_step : InReply → Standing → List ℕ → Step
file_step r s payload =
    says (λ so_far. events.FileData payload)
    (λ so_far. in_phase (phases.Reply (record r { so_far = so_far })) s)
    (of_reply (file_data_at r.so_far r.so_far.awaited payload))

-- THE TABLE

abbrev pub by_turn : Side → InReply → Standing → List ℕ → Step
by_turn Client r s payload = file_step r s payload
by_turn Server r s payload = reply_step r s payload

abbrev pub in_turn : Phase → Standing → List ℕ → Step
in_turn phases.Greeting s payload =
    says events.Greeting (after_greeting s) (of_login (greeting_at payload))
in_turn phases.Response s payload =
    says events.Response (after_response s) (of_login (response_at s.offered.protocol.0 payload))
in_turn (phases.Authentication exchange) s payload = authentication_step exchange s payload
in_turn (phases.Answer exchange) s payload =
    Ok (events.Answer payload, in_phase (phases.Authentication exchange) s)
in_turn phases.Command s payload = command_step s payload
in_turn (phases.Reply r) s payload = by_turn (turn_in_reply r.so_far.awaited) r s payload
in_turn (phases.Over reason) s payload = Err faults.Unasked

-- What the payload that is due says, and what stands behind it.
unfoldable pub step : Standing → List ℕ → Step
step s payload = in_turn s.phase s payload
