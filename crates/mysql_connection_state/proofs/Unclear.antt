-- What isn't a command has no unclear values.
use Rattle.std.proofs.Common.{◌≡◌, ℕ, Bool, true, false, List, None, Result, Ok, Err, refl, subst, if◌then◌else◌}
use Rattle.std.specs.Prelude.{IfOk}
use Rattle.mysql_authentication.specs.Readings.{authentication_at}
use Rattle.mysql_connection_rules.specs.Events.{Event}
use Rattle.mysql_connection_rules.specs.Events as events
use Rattle.mysql_connection_rules.specs.Standing.{Standing}
use Rattle.mysql_connection_rules.specs.Steps.{greets_anew, of_login, of_reply}
use Rattle.mysql_connection_rules.specs.declared.exchange.Exchange.{Exchange}
use Rattle.mysql_connection_rules.specs.declared.fault.Fault.{Fault}
use Rattle.mysql_connection_rules.specs.declared.fault.Fault.TheVariants as faults
use Rattle.mysql_connection_state.specs.Reads.{Gives, asked}
use Rattle.mysql_connection_state.specs.Views.{EventHasUnclear, event_view}
use Rattle.mysql_connection_state.specs.declared.event.Event.{Event as HeldEvent}
use Rattle.mysql_connection_state.specs.declared.event.Event.TheVariants as held
use Rattle.mysql_connection_state.specs.Peeks.{said_in_exchange, said_in_reply, saying}
use Rattle.mysql_reply_events.specs.Reader.{ReaderState}
use Rattle.mysql_reply_events.specs.Table.{event_at}
use Rattle.mysql_reply_events.specs.declared.awaited.Turn.{Turn}
use Rattle.mysql_reply_events.specs.declared.awaited.Turn.TheVariants as turns

-- no command is said
abbrev pub SaysNone : Result Event Fault → Type 0
SaysNone (Ok event) = asked event ≡ None
SaysNone (Err fault) = Unit {0}

none_of : (s : Standing) (payload : List ℕ) (event : HeldEvent) → asked (event_view event) ≡ None →
    EventHasUnclear s payload event
none_of s payload (held.Command command) none = absurd (cc none)
none_of s payload event none = tt

pub gives_none : (s : Standing) (payload : List ℕ) (result : Result HeldEvent Fault) (said : Result Event Fault)
    → SaysNone said → Gives event_view result said → IfOk result (λ event. EventHasUnclear s payload event)
gives_none s payload (Ok event) said none gives = none_of s payload event (subst SaysNone gives none)
gives_none s payload (Err fault) said none gives = tt

pub saying_none : {X : Type 0} (event : X → Event) (read : Result X Fault) →
    ((x : X) → asked (event x) ≡ None) → SaysNone (saying event read)
saying_none event (Ok x) none = none x
saying_none event (Err fault) none = tt

anew_none : (anew : Bool) (said : Result Event Fault) → SaysNone said →
    SaysNone (if anew then Err faults.BadGreeting else said)
anew_none true said none = tt
anew_none false said none = none

pub exchange_none : (exchange : Exchange) (capabilities : ℕ) (payload : List ℕ) →
    SaysNone (said_in_exchange exchange capabilities payload)
exchange_none exchange capabilities payload =
    anew_none (greets_anew exchange payload) _
    (saying_none events.Authentication (of_login (authentication_at capabilities payload))
    (λ x. refl))

pub reply_none : (turn : Turn) (reader : ReaderState) (payload : List ℕ) → SaysNone (said_in_reply turn reader payload)
reply_none turns.Client reader payload = refl
reply_none turn reader payload =
    saying_none (λ x. events.Replied x.0) (of_reply (event_at reader.context reader.so_far payload)) (λ x. refl)
