-- The payload of an event of a connection, and why an event isn't written.
-- MySQL: Client/Server Protocol, "Connection Lifecycle", "Connection Phase" and "Command Phase".
use Rattle.std.specs.Prelude.{ℕ, List, Option, Some, None}
use Rattle.mysql_authentication.specs.Events.Greeting.{Rejected}
use Rattle.mysql_authentication.specs.Written.{authentication_bytes, authentication_cause}
use Rattle.mysql_authentication.specs.Written.{greeting_bytes, greeting_cause, response_bytes}
use Rattle.mysql_authentication.specs.Written.{response_cause}
use Rattle.mysql_authentication.specs.declared.refusal.LoginRefusal.{LoginRefusal}
use Rattle.mysql_command_writer.specs.Refusals.{cause_against}
use Rattle.mysql_connection_rules.specs.Events.{Event}
use Rattle.mysql_connection_rules.specs.Events as events
use Rattle.mysql_connection_rules.specs.Standing.{Phase, Standing}
use Rattle.mysql_connection_rules.specs.Standing as phases
use Rattle.mysql_connection_rules.specs.Steps.{context_of}
use Rattle.mysql_reply_event_writer.specs.Written.{event_payload}
use Rattle.mysql_connection_writer.specs.Commands.{command_payload, parameters_named}
use Rattle.mysql_connection_writer.specs.declared.refusal.BadEvent.{BadEvent}
use Rattle.mysql_connection_writer.specs.declared.refusal.BadEvent.TheVariants as bad

abbrev pub Payload : Type 0
Payload = List ℕ

-- A packet's bytes, where its writer has no cause against it.
abbrev pub unless_cause : Option LoginRefusal → Payload → Option Payload
unless_cause None payload = Some payload
unless_cause (Some cause) payload = None

-- THE PAYLOAD OF AN EVENT, in the phase that is due; last words may stand in any. An event of
-- another phase has none.
abbrev pub payload_in : Event → Standing → Phase → Option Payload
payload_in (events.Greeting said) s phases.Greeting =
    unless_cause (greeting_cause said) (greeting_bytes said)
payload_in (events.Response said) s phases.Response =
    unless_cause (response_cause s.offered.protocol.0 said)
    (response_bytes s.offered.protocol.0 said)
payload_in (events.Authentication said) s (phases.Authentication exchange) =
    unless_cause (authentication_cause s.capabilities.protocol.0 said)
    (authentication_bytes s.capabilities.protocol.0 said)
payload_in (events.Answer bytes) s (phases.Answer exchange) = Some bytes
payload_in (events.Asked command) s phases.Command =
    command_payload s.capabilities (parameters_named s.statements command) command
payload_in (events.Replied said) s (phases.Reply r) = event_payload (context_of s r) said
payload_in (events.FileData bytes) s (phases.Reply r) = Some bytes
payload_in (events.Farewell error) s phase =
    unless_cause (greeting_cause (Rejected error)) (greeting_bytes (Rejected error))
payload_in event s phase = None

abbrev pub payload_of : Standing → Event → Option Payload
payload_of s event = payload_in event s s.phase

-- THE CAUSE AGAINST AN EVENT that no payload says: the one that its packet's writer names.
abbrev pub login_cause : Option LoginRefusal → BadEvent
login_cause None = bad.ReadsOtherwise
login_cause (Some cause) = bad.Login cause

abbrev pub cause_in : Event → Standing → Phase → BadEvent
cause_in (events.Greeting said) s phases.Greeting = login_cause (greeting_cause said)
cause_in (events.Response said) s phases.Response =
    login_cause (response_cause s.offered.protocol.0 said)
cause_in (events.Authentication said) s (phases.Authentication exchange) =
    login_cause (authentication_cause s.capabilities.protocol.0 said)
cause_in (events.Asked command) s phases.Command =
    bad.Command (cause_against s.capabilities (parameters_named s.statements command) command)
cause_in (events.Farewell error) s phase = login_cause (greeting_cause (Rejected error))
cause_in event s phase = bad.ReadsOtherwise

abbrev pub cause_of : Standing → Event → BadEvent
cause_of s event = cause_in event s s.phase
