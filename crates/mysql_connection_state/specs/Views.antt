-- What the code holds, as values.
-- MySQL: Client/Server Protocol, "Connection Lifecycle", "Connection Phase" and "Command Phase".
use Rattle.std.specs.Prelude.{◌≡◌, ℕ, List, Option, None}
use Rattle.mysql_authentication.specs.Views.{authentication_view, greeting_view}
use Rattle.mysql_authentication.specs.Views.{response_event_view}
use Rattle.mysql_commands.specs.Views.{HasUnclear, command_view}
use Rattle.mysql_const.specs.declared.capabilities.Capabilities.{Capabilities}
use Rattle.mysql_reply_events.specs.Events.{Awaited}
use Rattle.mysql_reply_events.specs.Events as awaiting
use Rattle.mysql_reply_events.specs.Views.{event_view as reply_view}
use Rattle.mysql_row_refs.specs.declared.reader.RowReader.{RowReader}
use Rattle.mysql_server_packets.specs.Views.{server_error_view}
use Rattle.mysql_connection_rules.specs.Events.{Event}
use Rattle.mysql_connection_rules.specs.Events as events
use Rattle.mysql_connection_rules.specs.Standing.{About, InReply, Phase, Standing}
use Rattle.mysql_connection_rules.specs.Standing.About.{Executing, Nothing, OfStatement, Preparing}
use Rattle.mysql_connection_rules.specs.Standing.About.{Resetting, Streaming}
use Rattle.mysql_connection_rules.specs.Standing as phases
use Rattle.mysql_connection_rules.specs.Steps.{parameters_in_question}
use Rattle.mysql_connection_state.specs.declared.due.About.{About as HeldAbout}
use Rattle.mysql_connection_state.specs.declared.due.About.TheVariants as about
use Rattle.mysql_connection_state.specs.declared.due.Due.{Due}
use Rattle.mysql_connection_state.specs.declared.due.Due.TheVariants as due
use Rattle.mysql_connection_state.specs.declared.due.InReply.{InReply as HeldReply}
use Rattle.mysql_connection_state.specs.declared.event.Event.{Event as HeldEvent}
use Rattle.mysql_connection_state.specs.declared.event.Event.TheVariants as held
use Rattle.mysql_connection_state.specs.declared.phase.Phase.{Phase as PlainPhase}
use Rattle.mysql_connection_state.specs.declared.phase.Phase.TheVariants as plain

abbrev pub event_view : HeldEvent → Event
event_view (held.Greeting said) = events.Greeting (greeting_view said.value)
event_view (held.Response said) = events.Response (response_event_view said.value)
event_view (held.Authentication said) = events.Authentication (authentication_view said.value)
event_view (held.Answer bytes) = events.Answer bytes
event_view (held.Command command) = events.Asked (command_view command.value)
event_view (held.Reply said) = events.Replied (reply_view said.value)
event_view (held.FileData bytes) = events.FileData bytes
event_view (held.Farewell error) = events.Farewell (server_error_view error)

-- Of a command that this payload says here exactly those values are unclear that are so by its bytes
-- and its statement. Of another event nothing is said.
abbrev pub EventHasUnclear : Standing → List ℕ → HeldEvent → Type 0
EventHasUnclear s payload (held.Command command) =
    HasUnclear s.capabilities (parameters_in_question s.statements payload) payload command.value
EventHasUnclear s payload event = Unit {0}

abbrev pub about_view : HeldAbout → About
about_view about.Nothing = Nothing
about_view (about.Preparing text size) = Preparing text size
about_view (about.OfStatement id) = OfStatement id
about_view (about.Executing pending) = Executing pending
about_view about.Resetting = Resetting
about_view (about.Streaming reason) = Streaming reason

abbrev pub in_reply_view : HeldReply → InReply
in_reply_view r = record {
  kind = r.reader.context.kind;
  so_far = r.reader.so_far;
  about = about_view r.about;
  earlier = r.earlier;
  coming = r.coming;
  parameters = r.parameters;
}

abbrev pub phase_view : Due → Phase
phase_view due.Greeting = phases.Greeting
phase_view due.Response = phases.Response
phase_view (due.Authentication exchange) = phases.Authentication exchange
phase_view (due.Answer exchange) = phases.Answer exchange
phase_view due.Command = phases.Command
phase_view (due.Reply r) = phases.Reply (in_reply_view r)
phase_view (due.Over reason) = phases.Over reason

-- What a state holds: what stands of the connection, and what reads rows where they lie, once one
-- was.
pub record ConnectionState : Type 0 where
  pub standing : Standing
  pub rows : Option RowReader

abbrev pub rows_of : Due → Option RowReader
rows_of (due.Reply r) = r.reader.rows
rows_of phase = None

-- A reply's reader has found no fault, and reads by the capabilities in force.
pub record ReadsBy (capabilities : Capabilities) (r : HeldReply) : Type 0 where
  pub fault : r.reader.fault ≡ None
  pub context : r.reader.context.capabilities ≡ capabilities

abbrev pub Fits : Capabilities → Due → Type 0
Fits capabilities (due.Reply r) = ReadsBy capabilities r
Fits capabilities phase = Unit {0}

-- What callers are told of a phase.
abbrev pub plain_reply : Awaited → PlainPhase
plain_reply awaiting.FileData = plain.FileData
plain_reply awaited = plain.Reply

abbrev pub plain_phase : Phase → PlainPhase
plain_phase phases.Greeting = plain.Greeting
plain_phase phases.Response = plain.Response
plain_phase (phases.Authentication exchange) = plain.Authentication
plain_phase (phases.Answer exchange) = plain.Answer
plain_phase phases.Command = plain.Command
plain_phase (phases.Reply r) = plain_reply r.so_far.awaited
plain_phase (phases.Over reason) = plain.Over reason
