-- What a call that looks at the payload that is due answers.
-- MySQL: Client/Server Protocol, "Connection Lifecycle".
use Rattle.std.specs.Prelude.{◌≡◌, ℕ, List, None, Result, Ok, Err, if◌then◌else◌}
use Rattle.mysql_authentication.specs.Readings.{authentication_at, early_error_at}
use Rattle.mysql_connection_rules.specs.Events.{Event}
use Rattle.mysql_connection_rules.specs.Events as events
use Rattle.mysql_connection_rules.specs.Standing.{Phase, Standing}
use Rattle.mysql_connection_rules.specs.Steps.{Step, greets_anew, of_login, of_reply, over, says}
use Rattle.mysql_connection_rules.specs.Streams.{begins_error}
use Rattle.mysql_connection_rules.specs.declared.exchange.Exchange.{Exchange}
use Rattle.mysql_connection_rules.specs.declared.fault.Fault.{Fault}
use Rattle.mysql_connection_rules.specs.declared.fault.Fault.TheVariants as faults
use Rattle.mysql_connection_rules.specs.declared.reason.Reason.TheVariants as reasons
use Rattle.mysql_connection_state.specs.Follows.{exchange_due}
use Rattle.mysql_connection_state.specs.Reads.{Gives, IsInReply}
use Rattle.mysql_connection_state.specs.Views.{event_view}
use Rattle.mysql_connection_state.specs.declared.event.Event.{Event as HeldEvent}
use Rattle.mysql_fields.specs.Wire.{Reading}
use Rattle.mysql_reply_events.specs.Reader.{ReaderState}
use Rattle.mysql_reply_events.specs.Table.{event_at}
use Rattle.mysql_reply_events.specs.declared.awaited.Turn.{Turn}
use Rattle.mysql_reply_events.specs.declared.awaited.Turn.TheVariants as turns
use Rattle.mysql_reply_events.specs.declared.fault.ReplyFault.{ReplyFault}
use Rattle.mysql_reply_events.specs.declared.fault.ReplyFault.TheVariants as reply_faults

-- What a step says, wherever it leads; or its fault.
abbrev pub said_in : Step → Result Event Fault
said_in (Ok said) = Ok said.0
said_in (Err fault) = Err fault

-- A call answered the step's event, or its fault. Want of memory may stand in place of any.
abbrev pub Peeks : Step → Result HeldEvent Fault → Type 0
Peeks step result = Gives event_view result (said_in step)

-- LAST WORDS

-- An error that is read without capabilities.
abbrev pub or_bad_error : {X : Type 0} → Reading X → Result X Fault
or_bad_error (Ok x) = Ok x.0
or_bad_error (Err e) = Err (faults.BadReply reply_faults.BadError)

abbrev pub farewell_step : Standing → List ℕ → Step
farewell_step s payload =
    says events.Farewell (λ error. over reasons.Farewell s) (or_bad_error (early_error_at payload))

-- The server's last words: an error that answers nothing.
abbrev pub words_step : Standing → List ℕ → Step
words_step s payload =
    if begins_error payload then farewell_step s payload else Err faults.Unasked

-- WORDS OF THE CRATE'S OWN BODY: what is said, by what was read of a payload

abbrev pub saying : {X : Type 0} → (X → Event) → Result X Fault → Result Event Fault
saying event (Ok x) = Ok (event x)
saying event (Err fault) = Err fault

-- In an exchange.
abbrev pub said_in_exchange : Exchange → (capabilities : ℕ) → List ℕ → Result Event Fault
said_in_exchange exchange capabilities payload =
    if greets_anew exchange payload then Err faults.BadGreeting
    else saying events.Authentication (of_login (authentication_at capabilities payload))

-- No exchange is due, nor a reply.
pub record IsPlain (phase : Phase) : Type 0 where
  pub exchange : exchange_due phase ≡ None
  pub reply : IsInReply phase → ⊥

-- The fault of a payload of a reply.
abbrev pub reply_fault : ReplyFault → Fault
reply_fault reply_faults.Memory = faults.Memory
reply_fault fault = faults.BadReply fault

-- In a reply, by its reader and whose turn it is.
abbrev pub said_in_reply : Turn → ReaderState → List ℕ → Result Event Fault
said_in_reply turns.Client reader payload = Ok (events.FileData payload)
said_in_reply turn reader payload =
    saying (λ x. events.Replied x.0) (of_reply (event_at reader.context reader.so_far payload))
