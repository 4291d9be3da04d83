-- What a payload says is of the side whose payload is due.
use Rattle.std.proofs.Common.{◌≡◌, ℕ, Bool, true, false, List, Some, Result, Ok, Err}
use Rattle.std.specs.Prelude.{if◌then◌else◌}
use Rattle.mysql_authentication.specs.Readings.{authentication_at, greeting_at, response_at}
use Rattle.mysql_reply_events.specs.Table.{event_at, file_data_at}
use Rattle.mysql_connection_statements.specs.Statements.{counted}
use Rattle.mysql_connection_rules.specs.declared.fault.Fault.{Fault}
use Rattle.mysql_connection_rules.specs.declared.fault.Fault.TheVariants as faults
use Rattle.mysql_connection_rules.specs.declared.side.Side.{Side}
use Rattle.mysql_connection_rules.specs.declared.side.Side.TheVariants.{Client, Server}
use Rattle.mysql_connection_rules.specs.Events.{Event, side_of}
use Rattle.mysql_connection_rules.specs.Events as events
use Rattle.mysql_connection_rules.specs.Standing.{InReply, Phase, Standing}
use Rattle.mysql_connection_rules.specs.Standing as phases
use Rattle.mysql_connection_rules.specs.Steps.{Step, after_authentication, after_event, after_greeting, after_response}
use Rattle.mysql_connection_rules.specs.Steps.{by_turn, context_of, greets_anew, in_phase, in_turn}
use Rattle.mysql_connection_rules.specs.Steps.{of_login, of_reply, says, step, turn, turn_in_reply}

abbrev pub SaidBy : Side → Result (Event × Standing) Fault → Type 0
SaidBy own (Ok said) = own ≡ side_of said.0
SaidBy own (Err fault) = Unit {0}

says_of : {X : Type 0} (event : X → Event) (after : X → Standing) (own : Side) →
    ((x : X) → own ≡ side_of (event x)) → (read : Result X Fault) →
    SaidBy own (says event after read)
says_of event after own h (Ok x) = h x
says_of event after own h (Err fault) = tt

its : (side own : Side) → Some side ≡ Some own → own ≡ side
its side own e = cc

anew_of : (anew : Bool) (own : Side) (step : Step) → SaidBy own step →
    SaidBy own (if anew then Err faults.BadGreeting else step)
anew_of true own step h = tt
anew_of false own step h = h

reply_of : (side own : Side) (r : InReply) (s : Standing) (payload : List ℕ) → own ≡ side →
    SaidBy own (by_turn side r s payload)
reply_of Client own r s payload e =
    says_of (λ so_far. events.FileData payload)
    (λ so_far. in_phase (phases.Reply (record r { so_far = so_far })) s) own (λ x. e)
    (of_reply (file_data_at r.so_far r.so_far.awaited payload))
reply_of Server own r s payload e =
    says_of (λ x. events.Replied x.0) (λ x. after_event r (counted payload) x.0 x.1 s) own (λ x. e)
    (of_reply (event_at (context_of s r) r.so_far payload))

by_phase : (phase : Phase) (s : Standing) (payload : List ℕ) (own : Side) → turn phase ≡ Some own →
    SaidBy own (in_turn phase s payload)
by_phase phases.Greeting s payload own e =
    says_of events.Greeting (after_greeting s) own (λ x. its Server own e)
    (of_login (greeting_at payload))
by_phase phases.Response s payload own e =
    says_of events.Response (after_response s) own (λ x. its Client own e)
    (of_login (response_at s.offered.protocol.0 payload))
by_phase (phases.Authentication exchange) s payload own e =
    anew_of (greets_anew exchange payload) own
    (says events.Authentication (after_authentication exchange s)
    (of_login (authentication_at s.capabilities.protocol.0 payload)))
    (says_of events.Authentication (after_authentication exchange s) own (λ x. its Server own e)
    (of_login (authentication_at s.capabilities.protocol.0 payload)))
by_phase (phases.Answer exchange) s payload own e = its Client own e
by_phase phases.Command s payload own e = its Client own e
by_phase (phases.Reply r) s payload own e =
    reply_of (turn_in_reply r.so_far.awaited) own r s payload
    (its (turn_in_reply r.so_far.awaited) own e)
by_phase (phases.Over reason) s payload own e = tt

pub step_side : (s : Standing) (payload : List ℕ) (own : Side) → turn s.phase ≡ Some own → SaidBy own (step s payload)
unfolding step
step_side s payload own e = by_phase s.phase s payload own e
