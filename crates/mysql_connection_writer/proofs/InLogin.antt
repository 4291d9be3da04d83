-- The first payload of each side, and those by which a user is logged in or changed.
use Rattle.std.proofs.Common.{◌≡◌, ℕ, Bool, true, false, List, Some, None, Result, Ok, Err, refl, ap, ◌∙◌, subst}
use Rattle.mysql_authentication.specs.Events.{Authentication, Greeting, Response}
use Rattle.mysql_authentication.specs.Readings.{authentication_at, greeting_at, response_at}
use Rattle.mysql_authentication.specs.Written.{authentication_bytes, authentication_cause}
use Rattle.mysql_authentication.specs.Written.{greeting_bytes, greeting_cause, response_bytes, response_cause}
use Rattle.mysql_const.specs.declared.capabilities.Capabilities.{Capabilities}
use Rattle.mysql_connection_rules.specs.Events.{Event}
use Rattle.mysql_connection_rules.specs.Events as events
use Rattle.mysql_connection_rules.specs.Standing.{Phase, Standing}
use Rattle.mysql_connection_rules.specs.Standing as phases
use Rattle.mysql_connection_rules.specs.Steps.{after_authentication, after_greeting, after_response}
use Rattle.mysql_connection_rules.specs.Steps.{authentication_step}
use Rattle.mysql_connection_rules.specs.StepLaws.{step_said, step_says}
use Rattle.mysql_connection_rules.specs.Steps.{greets_anew, in_turn, of_login, says, step}
use Rattle.mysql_connection_rules.specs.declared.exchange.Exchange.{Exchange}
use Rattle.mysql_connection_state.specs.Follows.{exchange_due}
use Rattle.mysql_connection_writer.proofs.Lifting.{lifted, of_login_ok, said_of, some_same, unwritten}
use Rattle.mysql_connection_writer.specs.Payloads.{Payload, cause_in, login_cause, payload_in, unless_cause}
use Rattle.mysql_connection_writer.specs.Phases.{awaits_greeting, awaits_response}
use Rattle.mysql_connection_writer.specs.Exchanges.{ReadsInExchange}
use Rattle.mysql_connection_writer.specs.Writes.{Writes, WritesEvent}
use Rattle.mysql_connection_writer.specs.declared.refusal.BadEvent.TheVariants.{ReadsOtherwise}
use Rattle.mysql_connection_writer.specs.declared.refusal.EventRefusal.{EventRefusal}
use Rattle.mysql_connection_writer.specs.declared.refusal.EventRefusal.TheVariants as refusals

-- a payload says an event in a phase
abbrev pub SaysIn : Phase → Standing → Event → Payload → Type 0
SaysIn phase s event p = (after : Standing) × (in_turn phase s p ≡ Ok (event, after))

-- what was written in a phase
abbrev pub WritesIn : Phase → Standing → Event → List ℕ → List ℕ → Result (Unit {0}) EventRefusal → Type 0
WritesIn phase s event old new result =
    Writes (SaysIn phase s event) (payload_in event s phase) (cause_in event s phase) old new result

-- a payload that says it in the phase says it by the table
says_in : (s : Standing) (event : Event) (p : Payload) → SaysIn s.phase s event p →
    (after : Standing) × (step s p ≡ Ok (event, after))
says_in s event p h = (h.0, step_says s p event h.0 h.1)

in_says : (s : Standing) (event : Event) (p : Payload) → (after : Standing) × (step s p ≡ Ok (event, after)) →
    SaysIn s.phase s event p
in_says s event p h = (h.0, step_said s p event h.0 h.1)

pub by_the_table : (s : Standing) (event : Event) (old new : List ℕ) (result : Result (Unit {0}) EventRefusal) →
    WritesIn s.phase s event old new result →
    Writes (λ p. (after : Standing) × (step s p ≡ Ok (event, after))) (payload_in event s s.phase)
    (cause_in event s s.phase) old new result
by_the_table s event old new result w =
    lifted (SaysIn s.phase s event) (λ p. (after : Standing) × (step s p ≡ Ok (event, after)))
    (payload_in event s s.phase) (cause_in event s s.phase) old new result (λ p is. says_in s event p)
    (λ p is. in_says s event p) w

-- GREETINGS

same_greeting : (a b : Greeting) → events.Greeting a ≡ events.Greeting b → a ≡ b
same_greeting a b e = cc

greeting_to : (s : Standing) (said : Greeting) (p : Payload) → greeting_at p ≡ Ok said →
    SaysIn phases.Greeting s (events.Greeting said) p
greeting_to s said p h = (after_greeting s said, rw h refl)

greeting_from : (s : Standing) (said : Greeting) (p : Payload) →
    SaysIn phases.Greeting s (events.Greeting said) p → greeting_at p ≡ Ok said
greeting_from s said p h =
    let x = said_of events.Greeting (after_greeting s) (of_login (greeting_at p)) (events.Greeting said) h.0 h.1 in
    of_login_ok (greeting_at p) said (x.1 ∙ ap (λ (y : Greeting). Ok y) (same_greeting x.0 said x.2))

greeting_in : (phase : Phase) (s : Standing) (said : Greeting) (old new : List ℕ)
    (result : Result (Unit {0}) EventRefusal) → awaits_greeting phase ≡ true →
    Writes (λ p. greeting_at p ≡ Ok said) (unless_cause (greeting_cause said) (greeting_bytes said))
    (login_cause (greeting_cause said)) old new result →
    WritesIn phase s (events.Greeting said) old new result
greeting_in phases.Greeting s said old new result h w =
    lifted (λ p. greeting_at p ≡ Ok said) (SaysIn phases.Greeting s (events.Greeting said))
    (unless_cause (greeting_cause said) (greeting_bytes said)) (login_cause (greeting_cause said))
    old new result (λ p is. greeting_to s said p) (λ p is. greeting_from s said p) w
greeting_in phase s said old new result h w = absurd cc

pub greeting_written : (s : Standing) (said : Greeting) (old new : List ℕ)
    (result : Result (Unit {0}) EventRefusal) → awaits_greeting s.phase ≡ true →
    Writes (λ p. greeting_at p ≡ Ok said) (unless_cause (greeting_cause said) (greeting_bytes said))
    (login_cause (greeting_cause said)) old new result →
    WritesEvent s (events.Greeting said) old new result
greeting_written s said old new result h w =
    by_the_table s (events.Greeting said) old new result
    (greeting_in s.phase s said old new result h w)

no_greeting_in : (phase : Phase) (s : Standing) (said : Greeting) (old : List ℕ) →
    awaits_greeting phase ≡ false →
    WritesIn phase s (events.Greeting said) old old (Err (refusals.BadEvent ReadsOtherwise))
no_greeting_in phases.Greeting s said old h = absurd cc
no_greeting_in phase s said old h = unwritten (SaysIn phase s (events.Greeting said)) None ReadsOtherwise old refl refl

pub no_greeting : (s : Standing) (said : Greeting) (old : List ℕ) → awaits_greeting s.phase ≡ false →
    WritesEvent s (events.Greeting said) old old (Err (refusals.BadEvent ReadsOtherwise))
no_greeting s said old h =
    by_the_table s (events.Greeting said) old old (Err (refusals.BadEvent ReadsOtherwise))
    (no_greeting_in s.phase s said old h)

-- RESPONSES

same_response : (a b : Response) → events.Response a ≡ events.Response b → a ≡ b
same_response a b e = cc

response_to : (s : Standing) (said : Response) (p : Payload) →
    response_at s.offered.protocol.0 p ≡ Ok said →
    SaysIn phases.Response s (events.Response said) p
response_to s said p h = (after_response s said, rw h refl)

response_from : (s : Standing) (said : Response) (p : Payload) →
    SaysIn phases.Response s (events.Response said) p →
    response_at s.offered.protocol.0 p ≡ Ok said
response_from s said p h =
    let x = said_of events.Response (after_response s) (of_login (response_at s.offered.protocol.0 p))
    (events.Response said) h.0 h.1 in
    of_login_ok (response_at s.offered.protocol.0 p) said
    (x.1 ∙ ap (λ (y : Response). Ok y) (same_response x.0 said x.2))

response_in : (phase : Phase) (s : Standing) (said : Response) (old new : List ℕ)
    (result : Result (Unit {0}) EventRefusal) → awaits_response phase ≡ true →
    Writes (λ p. response_at s.offered.protocol.0 p ≡ Ok said)
    (unless_cause (response_cause s.offered.protocol.0 said) (response_bytes s.offered.protocol.0 said))
    (login_cause (response_cause s.offered.protocol.0 said)) old new result →
    WritesIn phase s (events.Response said) old new result
response_in phases.Response s said old new result h w =
    lifted (λ p. response_at s.offered.protocol.0 p ≡ Ok said)
    (SaysIn phases.Response s (events.Response said))
    (unless_cause (response_cause s.offered.protocol.0 said) (response_bytes s.offered.protocol.0 said))
    (login_cause (response_cause s.offered.protocol.0 said))
    old new result (λ p is. response_to s said p) (λ p is. response_from s said p) w
response_in phase s said old new result h w = absurd cc

pub response_written : (s : Standing) (offered : Capabilities) (said : Response) (old new : List ℕ)
    (result : Result (Unit {0}) EventRefusal) → awaits_response s.phase ≡ true → offered ≡ s.offered →
    Writes (λ p. response_at offered.protocol.0 p ≡ Ok said)
    (unless_cause (response_cause offered.protocol.0 said) (response_bytes offered.protocol.0 said))
    (login_cause (response_cause offered.protocol.0 said)) old new result →
    WritesEvent s (events.Response said) old new result
response_written s offered said old new result h same w =
    by_the_table s (events.Response said) old new result
    (response_in s.phase s said old new result h
    (subst (λ (c : Capabilities). Writes (λ p. response_at c.protocol.0 p ≡ Ok said)
    (unless_cause (response_cause c.protocol.0 said) (response_bytes c.protocol.0 said))
    (login_cause (response_cause c.protocol.0 said)) old new result) same w))

no_response_in : (phase : Phase) (s : Standing) (said : Response) (old : List ℕ) →
    awaits_response phase ≡ false →
    WritesIn phase s (events.Response said) old old (Err (refusals.BadEvent ReadsOtherwise))
no_response_in phases.Response s said old h = absurd cc
no_response_in phase s said old h = unwritten (SaysIn phase s (events.Response said)) None ReadsOtherwise old refl refl

pub no_response : (s : Standing) (said : Response) (old : List ℕ) → awaits_response s.phase ≡ false →
    WritesEvent s (events.Response said) old old (Err (refusals.BadEvent ReadsOtherwise))
no_response s said old h =
    by_the_table s (events.Response said) old old (Err (refusals.BadEvent ReadsOtherwise))
    (no_response_in s.phase s said old h)

-- AUTHENTICATIONS

same_authentication : (a b : Authentication) → events.Authentication a ≡ events.Authentication b → a ≡ b
same_authentication a b e = cc

authentication_to : (exchange : Exchange) (s : Standing) (said : Authentication) (p : Payload) →
    ReadsInExchange exchange s.capabilities.protocol.0 said p →
    SaysIn (phases.Authentication exchange) s (events.Authentication said) p
authentication_to exchange s said p h = (after_authentication exchange s said, rw (h.0, h.1) refl)

authentication_from : (exchange : Exchange) (s : Standing) (said : Authentication) (p : Payload) →
    SaysIn (phases.Authentication exchange) s (events.Authentication said) p →
    ReadsInExchange exchange s.capabilities.protocol.0 said p
authentication_from exchange s said p h = go (greets_anew exchange p) refl h.1 where
  go : (greets : Bool) → greets_anew exchange p ≡ greets →
      authentication_step exchange s p ≡ Ok (events.Authentication said, h.0) →
      ReadsInExchange exchange s.capabilities.protocol.0 said p
  go true g e = absurd (cc (rw g at e))
  go false g e =
      let told : says events.Authentication (after_authentication exchange s)
      (of_login (authentication_at s.capabilities.protocol.0 p)) ≡ Ok (events.Authentication said, h.0) =
      rw g at e in
      let x = said_of events.Authentication (after_authentication exchange s)
      (of_login (authentication_at s.capabilities.protocol.0 p)) (events.Authentication said) h.0 told in (
        g,
        of_login_ok (authentication_at s.capabilities.protocol.0 p) said
            (x.1 ∙ ap (λ (y : Authentication). Ok y) (same_authentication x.0 said x.2)),
      )

authentication_in : (phase : Phase) (exchange : Exchange) (s : Standing) (said : Authentication)
    (old new : List ℕ) (result : Result (Unit {0}) EventRefusal) → exchange_due phase ≡ Some exchange →
    Writes (ReadsInExchange exchange s.capabilities.protocol.0 said)
    (unless_cause (authentication_cause s.capabilities.protocol.0 said)
    (authentication_bytes s.capabilities.protocol.0 said))
    (login_cause (authentication_cause s.capabilities.protocol.0 said)) old new result →
    WritesIn phase s (events.Authentication said) old new result
authentication_in (phases.Authentication its) exchange s said old new result h w =
    lifted (ReadsInExchange exchange s.capabilities.protocol.0 said)
    (SaysIn (phases.Authentication its) s (events.Authentication said))
    (unless_cause (authentication_cause s.capabilities.protocol.0 said)
    (authentication_bytes s.capabilities.protocol.0 said))
    (login_cause (authentication_cause s.capabilities.protocol.0 said))
    old new result
    (λ p is r. authentication_to its s said p (rw (some_same its exchange h) r))
    (λ p is r. rw (← (some_same its exchange h)) (authentication_from its s said p r)) w
authentication_in phase exchange s said old new result h w = absurd cc

pub authentication_written : (exchange : Exchange) (s : Standing) (capabilities : Capabilities)
    (said : Authentication) (old new : List ℕ) (result : Result (Unit {0}) EventRefusal) →
    exchange_due s.phase ≡ Some exchange → capabilities ≡ s.capabilities →
    Writes (ReadsInExchange exchange capabilities.protocol.0 said)
    (unless_cause (authentication_cause capabilities.protocol.0 said)
    (authentication_bytes capabilities.protocol.0 said))
    (login_cause (authentication_cause capabilities.protocol.0 said)) old new result →
    WritesEvent s (events.Authentication said) old new result
authentication_written exchange s capabilities said old new result h same w =
    by_the_table s (events.Authentication said) old new result
    (authentication_in s.phase exchange s said old new result h
    (subst (λ (c : Capabilities). Writes (ReadsInExchange exchange c.protocol.0 said)
    (unless_cause (authentication_cause c.protocol.0 said) (authentication_bytes c.protocol.0 said))
    (login_cause (authentication_cause c.protocol.0 said)) old new result) same w))

no_authentication_in : (phase : Phase) (s : Standing) (said : Authentication) (old : List ℕ) →
    exchange_due phase ≡ None →
    WritesIn phase s (events.Authentication said) old old (Err (refusals.BadEvent ReadsOtherwise))
no_authentication_in (phases.Authentication its) s said old h = absurd cc
no_authentication_in phase s said old h =
    unwritten (SaysIn phase s (events.Authentication said)) None ReadsOtherwise old refl refl

pub no_authentication : (s : Standing) (said : Authentication) (old : List ℕ) → exchange_due s.phase ≡ None →
    WritesEvent s (events.Authentication said) old old (Err (refusals.BadEvent ReadsOtherwise))
no_authentication s said old h =
    by_the_table s (events.Authentication said) old old (Err (refusals.BadEvent ReadsOtherwise))
    (no_authentication_in s.phase s said old h)
