-- What stands behind an event that a payload says is what follows from the event.
use Rattle.std.proofs.Common.{◌≡◌, ℕ, Bool, true, false, if◌then◌else◌, List, Result, Ok, Err, refl, subst}
use Rattle.mysql_authentication.specs.Readings.{authentication_at, greeting_at, response_at}
use Rattle.mysql_reply_events.specs.Events.{ReplySoFar}
use Rattle.mysql_reply_events.specs.Table.{event_at, file_data_at}
use Rattle.mysql_reply_events.specs.declared.fault.ReplyFault.{ReplyFault}
use Rattle.mysql_reply_events.specs.declared.fault.ReplyFault.TheVariants.{Memory}
use Rattle.mysql_connection_rules.specs.Events.{Event}
use Rattle.mysql_connection_rules.specs.Events.Event.{Answer, Asked, Authentication, Farewell, FileData, Greeting}
use Rattle.mysql_connection_rules.specs.Events.Event.{Replied, Response}
use Rattle.mysql_connection_rules.specs.Standing.{InReply, Phase, Standing}
use Rattle.mysql_connection_rules.specs.Standing as phases
use Rattle.mysql_connection_rules.specs.Steps.{after_authentication, after_command, after_event, after_greeting}
use Rattle.mysql_connection_rules.specs.Steps.{after_response, by_turn, context_of, greets_anew, in_phase, in_turn}
use Rattle.mysql_connection_rules.specs.Steps.{of_login, of_reply, says, step, turn_in_reply}
use Rattle.mysql_connection_rules.specs.declared.exchange.Exchange.{Exchange}
use Rattle.mysql_connection_rules.specs.declared.fault.Fault.{Fault}
use Rattle.mysql_connection_rules.specs.declared.fault.Fault.TheVariants as faults
use Rattle.mysql_connection_rules.specs.declared.side.Side.{Side}
use Rattle.mysql_connection_rules.specs.declared.side.Side.TheVariants.{Client, Server}
use Rattle.mysql_connection_statements.specs.Statements.{counted}

-- an authentication that is due, and what stands behind what the server says
pub record OfAuthentication (s : Standing) (behind : Exchange → Standing) (phase : Exchange →
    Phase) (after : Standing) : Type 0 where
  pub exchange : Exchange
  pub due : s.phase ≡ phase exchange
  pub same : behind exchange ≡ after

-- a reply that is due, what its payload leads to, and what stands then
pub record OfReply (s : Standing) (Reads : InReply → ReplySoFar → Type 0) (behind : InReply →
    ReplySoFar → Standing) (after : Standing) : Type 0 where
  pub reply : InReply
  pub next : ReplySoFar
  pub due : s.phase ≡ phases.Reply reply
  pub reads : Reads reply next
  pub same : behind reply next ≡ after

-- what an event of the table leads to
abbrev pub Leads : Standing → List ℕ → Event → Standing → Type 0
Leads s payload (Greeting said) after = after_greeting s said ≡ after
Leads s payload (Response said) after = after_response s said ≡ after
Leads s payload (Authentication said) after =
    OfAuthentication s (λ exchange. after_authentication exchange s said) phases.Authentication after
Leads s payload (Answer bytes) after =
    OfAuthentication s (λ exchange. in_phase (phases.Authentication exchange) s) phases.Answer after
Leads s payload (Asked command) after = after_command s payload command ≡ after
Leads s payload (Replied said) after =
    OfReply s (λ r next. event_at (context_of s r) r.so_far payload ≡ Ok (said, next))
    (λ r next. after_event r (counted payload) said next s) after
Leads s payload (FileData bytes) after =
    OfReply s (λ r next. file_data_at r.so_far r.so_far.awaited payload ≡ Ok next)
    (λ r next. in_phase (phases.Reply (record r { so_far = next })) s) after
Leads s payload (Farewell error) after = Unit {0}

ok_is : {X E : Type 0} {x y : X} → (let r : Result X E = Ok x in r) ≡ Ok y → x ≡ y
ok_is h = cc

-- what was read leads there
by_reading : {X : Type 0} (event : X → Event) (behind : X → Standing) (read : Result X Fault)
    (P : Event → Standing → Type 0) → ((x : X) → read ≡ Ok x → P (event x) (behind x)) →
    (said : Event) (after : Standing) → says event behind read ≡ Ok (said, after) → P said after
by_reading event behind (Ok x) P each said after h =
    let Q : Event × Standing → Type 0 = λ p. P p.0 p.1 in
    subst Q (ok_is h) (each x refl)
by_reading event behind (Err fault) P each said after h = absurd cc

of_reply_is : {X : Type 0} (read : Result X ReplyFault) (x : X) → of_reply read ≡ Ok x → read ≡ Ok x
of_reply_is (Ok y) x h = cc
of_reply_is (Err Memory) x h = absurd cc
of_reply_is (Err fault) x h = absurd cc

by_anew : (anew : Bool) (exchange : Exchange) (s : Standing) (payload : List ℕ)
    (said : Event) (after : Standing) → s.phase ≡ phases.Authentication exchange →
    (if anew then Err faults.BadGreeting else says Authentication (after_authentication exchange s)
    (of_login (authentication_at s.capabilities.protocol.0 payload))) ≡ Ok (said, after) →
    Leads s payload said after
by_anew true exchange s payload said after due h = absurd cc
by_anew false exchange s payload said after due h =
    by_reading Authentication (after_authentication exchange s)
    (of_login (authentication_at s.capabilities.protocol.0 payload)) (Leads s payload)
    (λ x is. record { exchange = exchange; due = due; same = refl }) said after h

by_side : (side : Side) (r : InReply) (s : Standing) (payload : List ℕ) (said : Event) (after : Standing) →
    s.phase ≡ phases.Reply r → by_turn side r s payload ≡ Ok (said, after) → Leads s payload said after
by_side Client r s payload said after due h =
    by_reading (λ so_far. FileData payload)
    (λ so_far. in_phase (phases.Reply (record r { so_far = so_far })) s)
    (of_reply (file_data_at r.so_far r.so_far.awaited payload)) (Leads s payload)
    (λ x is. record { reply = r; next = x; due = due; reads = of_reply_is _ x is; same = refl })
    said after h
by_side Server r s payload said after due h =
    by_reading (λ x. Replied x.0) (λ x. after_event r (counted payload) x.0 x.1 s)
    (of_reply (event_at (context_of s r) r.so_far payload)) (Leads s payload)
    (λ x is. record { reply = r; next = x.1; due = due; reads = of_reply_is _ x is; same = refl })
    said after h

by_phase : (phase : Phase) (s : Standing) (payload : List ℕ) (said : Event) (after : Standing) →
    s.phase ≡ phase → in_turn phase s payload ≡ Ok (said, after) → Leads s payload said after
by_phase phases.Greeting s payload said after due h =
    by_reading Greeting (after_greeting s) (of_login (greeting_at payload)) (Leads s payload)
    (λ x is. refl) said after h
by_phase phases.Response s payload said after due h =
    by_reading Response (after_response s) (of_login (response_at s.offered.protocol.0 payload))
    (Leads s payload) (λ x is. refl) said after h
by_phase (phases.Authentication exchange) s payload said after due h =
    by_anew (greets_anew exchange payload) exchange s payload said after due h
by_phase (phases.Answer exchange) s payload said after due h =
    let Q : Event × Standing → Type 0 = λ p. Leads s payload p.0 p.1 in
    subst Q (ok_is h) (record { exchange = exchange; due = due; same = refl })
by_phase phases.Command s payload said after due h =
    let Q : Event × Standing → Type 0 = λ p. Leads s payload p.0 p.1 in
    subst Q (ok_is h) refl
by_phase (phases.Reply r) s payload said after due h =
    by_side (turn_in_reply r.so_far.awaited) r s payload said after due h
by_phase (phases.Over reason) s payload said after due h = absurd cc

pub step_leads : (s : Standing) (payload : List ℕ) (said : Event) (after : Standing) →
    step s payload ≡ Ok (said, after) → Leads s payload said after
unfolding step
step_leads s payload said after h = by_phase s.phase s payload said after refl h
