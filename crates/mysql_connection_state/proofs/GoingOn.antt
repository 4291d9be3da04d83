-- A state that goes on behind what an event leads to follows the event.
use Rattle.std.proofs.Common.{◌≡◌, ℕ, List, Some, None, OnErr, Result, Ok, Err, subst, ap, ◌∙◌}
use Rattle.mysql_connection_rules.specs.Events.{Event}
use Rattle.mysql_connection_rules.specs.Events.Event.{Authentication}
use Rattle.mysql_connection_rules.specs.Standing.{Standing}
use Rattle.mysql_authentication.specs.Events.{Authentication as AuthenticationSaid}
use Rattle.mysql_connection_rules.specs.Steps.{after_authentication}
use Rattle.mysql_connection_rules.specs.declared.exchange.Exchange.{Exchange}
use Rattle.mysql_connection_state.proofs.Leading.{step_leads}
use Rattle.mysql_connection_state.specs.Follows.{FollowsEvent, Goes, LeadsTo, exchange_due}
use Rattle.mysql_connection_state.specs.Views.{ConnectionState}
use Rattle.mysql_connection_state.specs.declared.following.FollowRefusal.{FollowRefusal}
use Rattle.mysql_connection_state.specs.declared.following.FollowRefusal.TheVariants.{Held, Memory}

-- it goes on behind each standing that the payload leads to
pub follows_if : (old new : ConnectionState) (event : Event) (payload : List ℕ) (room : ℕ)
    (result : Result (Unit {0}) FollowRefusal) → OnErr result (new ≡ old) →
    ((after : Standing) → LeadsTo old.standing event payload after → Goes old after room result new) →
    FollowsEvent old event payload room result new
follows_if old new event payload room (Ok done) err each = each
follows_if old new event payload room (Err Held) err each = (err, λ after leads. (each after leads).1)
follows_if old new event payload room (Err Memory) err each = err

-- a refusal leaves all as it was
goes_err : (old new : ConnectionState) (after : Standing) (room : ℕ)
    (result : Result (Unit {0}) FollowRefusal) → Goes old after room result new → OnErr result (new ≡ old)
goes_err old new after room (Ok done) goes = tt
goes_err old new after room (Err Held) goes = goes.0
goes_err old new after room (Err Memory) goes = goes

-- it goes on behind the one standing that the event leads to
pub follows_one : (old new : ConnectionState) (event : Event) (payload : List ℕ) (room : ℕ)
    (result : Result (Unit {0}) FollowRefusal) (one : Standing) →
    ((after : Standing) → LeadsTo old.standing event payload after → one ≡ after) →
    Goes old one room result new → FollowsEvent old event payload room result new
follows_one old new event payload room result one leads goes =
    follows_if old new event payload room result (goes_err old new one room result goes)
    (λ after said. subst (λ (after : Standing). Goes old after room result new) (leads after said) goes)

-- while a user is logged in or changed, by what the exchange is for
pub authentication_leads : (s : Standing) (said : AuthenticationSaid) (payload : List ℕ) (exchange : Exchange)
    (after : Standing) → Some exchange ≡ exchange_due s.phase →
    LeadsTo s (Authentication said) payload after → after_authentication exchange s said ≡ after
authentication_leads s said payload exchange after due leads =
    let found = step_leads s payload (Authentication said) after leads in
    let its : exchange_due s.phase ≡ Some found.exchange = ap exchange_due found.due in
    let same : exchange ≡ found.exchange = cc in
    ap (λ (exchange : Exchange). after_authentication exchange s said) same ∙ found.same

-- no authentication is due, so that no payload says one
pub none_leads : (s : Standing) (said : AuthenticationSaid) (payload : List ℕ) (after : Standing) →
    None ≡ exchange_due s.phase → LeadsTo s (Authentication said) payload after → ⊥
none_leads s said payload after due leads =
    let found = step_leads s payload (Authentication said) after leads in
    let its : exchange_due s.phase ≡ Some found.exchange = ap exchange_due found.due in
    cc
