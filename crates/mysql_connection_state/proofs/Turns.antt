-- What the payload that is due says is in turn.
use Rattle.std.proofs.Common.{◌≡◌, ℕ, Bool, true, false, List, Option, Some, Result, Ok, Err, refl, ap, subst, ◌∙◌}
use Rattle.std.specs.Prelude.{if◌then◌else◌}
use Rattle.mysql_authentication.specs.Readings.{authentication_at, greeting_at, response_at}
use Rattle.mysql_connection_rules.specs.Puts.{has_place, is_turn, same_side, step_for}
use Rattle.mysql_connection_rules.specs.declared.fault.Fault.{Fault}
use Rattle.mysql_connection_rules.specs.declared.fault.Fault.TheVariants as faults
use Rattle.mysql_connection_rules.specs.declared.side.Side.{Side}
use Rattle.mysql_connection_rules.specs.declared.side.Side.TheVariants.{Client, Server}
use Rattle.mysql_connection_rules.specs.Events.{Event, side_of}
use Rattle.mysql_connection_rules.specs.Events as events
use Rattle.mysql_connection_rules.specs.Standing.{InReply, Phase, Standing}
use Rattle.mysql_connection_rules.specs.Standing as phases
use Rattle.mysql_connection_rules.specs.Steps.{Step, after_authentication, after_event, after_greeting, after_response}
use Rattle.mysql_connection_rules.specs.Steps.{by_turn, context_of, greets_anew, in_phase, in_turn}
use Rattle.mysql_connection_rules.specs.Steps.{of_login, of_reply, says, step, turn, turn_in_reply}
use Rattle.mysql_connection_rules.specs.Streams.{World}
use Rattle.mysql_connection_statements.specs.Statements.{counted}
use Rattle.mysql_reply_events.specs.Table.{event_at, file_data_at}
use Rattle.mysql_connection_state.specs.Laws.{PayloadsAreInTurn}

-- an event that is no last words
abbrev pub IsOrdinary : Event → Type 0
IsOrdinary (events.Farewell error) = ⊥
IsOrdinary event = Unit {0}

-- what a step says is of the side whose turn it is, and no last words
abbrev pub IsOfTurn : Option Side → Result (Event × Standing) Fault → Type 0
IsOfTurn its (Ok said) = (its ≡ Some (side_of said.0)) × IsOrdinary said.0
IsOfTurn its (Err fault) = Unit {0}

says_of : {X : Type 0} (event : X → Event) (after : X → Standing) (its : Option Side)
    → ((x : X) → (its ≡ Some (side_of (event x))) × IsOrdinary (event x)) →
    (read : Result X Fault) → IsOfTurn its (says event after read)
says_of event after its h (Ok x) = h x
says_of event after its h (Err fault) = tt

anew_of : (anew : Bool) (its : Option Side) (step : Step) → IsOfTurn its step →
    IsOfTurn its (if anew then Err faults.BadGreeting else step)
anew_of true its step h = tt
anew_of false its step h = h

reply_of : (side : Side) (r : InReply) (s : Standing) (payload : List ℕ) →
    IsOfTurn (Some side) (by_turn side r s payload)
reply_of Client r s payload =
    says_of (λ so_far. events.FileData payload)
    (λ so_far. in_phase (phases.Reply (record r { so_far = so_far })) s) (Some Client)
    (λ x. (refl, tt))
    (of_reply (file_data_at r.so_far r.so_far.awaited payload))
reply_of Server r s payload =
    says_of (λ x. events.Replied x.0) (λ x. after_event r (counted payload) x.0 x.1 s) (Some Server) (λ x. (refl, tt))
    (of_reply (event_at (context_of s r) r.so_far payload))

by_phase : (phase : Phase) (s : Standing) (payload : List ℕ) → IsOfTurn (turn phase) (in_turn phase s payload)
by_phase phases.Greeting s payload =
    says_of events.Greeting (after_greeting s) (Some Server) (λ x. (refl, tt))
    (of_login (greeting_at payload))
by_phase phases.Response s payload =
    says_of events.Response (after_response s) (Some Client) (λ x. (refl, tt))
    (of_login (response_at s.offered.protocol.0 payload))
by_phase (phases.Authentication exchange) s payload =
    anew_of (greets_anew exchange payload) (Some Server)
    (says events.Authentication (after_authentication exchange s)
    (of_login (authentication_at s.capabilities.protocol.0 payload)))
    (says_of events.Authentication (after_authentication exchange s) (Some Server) (λ x. (refl, tt))
    (of_login (authentication_at s.capabilities.protocol.0 payload)))
by_phase (phases.Answer exchange) s payload = (refl, tt)
by_phase phases.Command s payload = (refl, tt)
by_phase (phases.Reply r) s payload = reply_of (turn_in_reply r.so_far.awaited) r s payload
by_phase (phases.Over reason) s payload = tt

-- whatever is no last words is put as it is read
as_read : (event : Event) (s : Standing) (payload : List ℕ) → IsOrdinary event →
    step_for event s payload ≡ step s payload
as_read (events.Greeting said) s payload h = refl
as_read (events.Response said) s payload h = refl
as_read (events.Authentication said) s payload h = refl
as_read (events.Answer bytes) s payload h = refl
as_read (events.Asked command) s payload h = refl
as_read (events.Replied said) s payload h = refl
as_read (events.FileData bytes) s payload h = refl
as_read (events.Farewell error) s payload h = absurd h

-- and has its place in its side's turn
in_its_turn : (event : Event) (w : World) → IsOrdinary event → has_place w event ≡
    is_turn (side_of event) (turn w.standing.phase)
in_its_turn (events.Greeting said) w h = refl
in_its_turn (events.Response said) w h = refl
in_its_turn (events.Authentication said) w h = refl
in_its_turn (events.Answer bytes) w h = refl
in_its_turn (events.Asked command) w h = refl
in_its_turn (events.Replied said) w h = refl
in_its_turn (events.FileData bytes) w h = refl
in_its_turn (events.Farewell error) w h = absurd h

same_self : (side : Side) → same_side side side ≡ true
same_self Client = refl
same_self Server = refl

of_turn : (w : World) (payload : List ℕ) (event : Event) (after : Standing) →
    step w.standing payload ≡ Ok (event, after)
    → (turn w.standing.phase ≡ Some (side_of event)) × IsOrdinary event
unfolding step
of_turn w payload event after e =
    subst (IsOfTurn (turn w.standing.phase)) e (by_phase w.standing.phase w.standing payload)

pub payloads_are_in_turn : PayloadsAreInTurn
payloads_are_in_turn w payload event after e =
    let found = of_turn w payload event after e in record {
      its_turn = found.0;
      place = in_its_turn event w found.1 ∙ ap (is_turn (side_of event)) found.0 ∙ same_self (side_of event);
      put = as_read event w.standing payload found.1 ∙ e;
    }
