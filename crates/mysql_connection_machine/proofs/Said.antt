-- What is looked at and gone on behind is said by its step.
use Rattle.std.proofs.Common.{◌≡◌, ◌≤◌, ℕ, Bool, true, false, List, Result, Ok, Err, arith, inr, ap, subst}
use Rattle.std.proofs.lemmas.Bool.Decides.{nat_tests}
use Rattle.std.specs.Prelude.{if◌then◌else◌, nat_le}
use Rattle.mysql_authentication.specs.Readings.{early_error_at}
use Rattle.mysql_connection_rules.specs.Puts.{step_for, words_at}
use Rattle.mysql_connection_state.specs.Laws.{PayloadsAreInTurn}
use Rattle.mysql_connection_state.specs.Peeks.{or_bad_error, said_in, words_step}
use Rattle.mysql_connection_rules.specs.Events.{Event}
use Rattle.mysql_connection_rules.specs.Events as events
use Rattle.mysql_connection_rules.specs.Standing.{Standing, kept}
use Rattle.mysql_connection_rules.specs.Steps.{Step, over, says, step}
use Rattle.mysql_connection_rules.specs.Streams.{begins_error, no_bytes, room_to_keep}
use Rattle.mysql_connection_rules.specs.declared.fault.Fault.{Fault}
use Rattle.mysql_connection_rules.specs.declared.fault.Fault.TheVariants.{Unasked}
use Rattle.mysql_connection_rules.specs.declared.limits.Limits.{Limits}
use Rattle.mysql_connection_rules.specs.declared.reason.Reason.TheVariants as reasons
use Rattle.mysql_connection_rules.specs.declared.side.Side.{Side}
use Rattle.mysql_connection_state.specs.Follows.{LeadsTo}
use Rattle.mysql_connection_state.specs.Views.{ConnectionState, event_view}
use Rattle.mysql_connection_state.specs.declared.event.Event.{Event as HeldEvent}
use Rattle.mysql_fields.specs.Wire.{Reading}
use Rattle.mysql_server_packets.specs.Packets.{ServerError}
use Rattle.mysql_connection_machine.proofs.PutPayloads.{led}
use Rattle.mysql_connection_machine.specs.Takes.{GoesOnBy, SaysBy, has_room}

-- ---- room for what is kept

pub fits : (limits : Limits) (side : Side) (number : ℕ) (s : Standing) →
    kept s ≤ room_to_keep limits → has_room limits side number s ≡ true
fits limits side number s h = le (kept s) (room_to_keep limits) h where
  le : (a b : ℕ) → a ≤ b → nat_le a b ≡ true
  le a b h = grind (arith, nat_tests)

-- ---- an event that was looked at, by any step that puts what it says

-- what a step says is put by the payload
abbrev pub PutsAsRead : Standing → List ℕ → Step → Type 0
PutsAsRead s payload step = (event : Event) (after : Standing) → step ≡ Ok (event, after) →
    LeadsTo s event payload after

pub said_so : (limits : Limits) (side : Side) (number : ℕ) (old new : ConnectionState)
    (payload : List ℕ) (event : HeldEvent) (step : Step)
    (done : Unit {0}) → PutsAsRead old.standing payload step → said_in step ≡ Ok (event_view event) →
    GoesOnBy limits side number old (event_view event) payload (Ok done) new →
    SaysBy limits side number step (Ok event) new.standing
said_so limits side number old new payload event step done puts peeked goes =
    let to = led step (event_view event) peeked in
    let stands = goes to.0 (puts (event_view event) to.0 to.1) in
    (to.0, to.1, stands.0, stands.1)

pub not_said : (limits : Limits) (side : Side) (number : ℕ) (old new : ConnectionState)
    (payload : List ℕ) (event : HeldEvent) (step : Step)
    (fault : Fault) (left : Standing) → PutsAsRead old.standing payload step → said_in step ≡ Ok (event_view event) →
    GoesOnBy limits side number old (event_view event) payload (Err fault) new →
    SaysBy limits side number step (Err fault) left
not_said limits side number old new payload event step fault left puts peeked goes = λ other.
    let to = led step (event_view event) peeked in
    let why = goes.1 other in
    inr (event_view event, to.0, to.1, why.1 to.0 (puts (event_view event) to.0 to.1), why.0)

-- ---- the payload that is due

pub as_read : PayloadsAreInTurn → (limits : Limits) (s : Standing) (payload : List ℕ) →
    PutsAsRead s payload (step s payload)
as_read law limits s payload event after e =
    (law (record { limits = limits; standing = s; unread = no_bytes }) payload event after e).put

-- ---- last words

abbrev bidden : Standing → Bool → Reading ServerError → Step
bidden s begins read =
    if begins then says events.Farewell (λ error. over reasons.Farewell s) (or_bad_error read) else Err Unasked

abbrev put_words : Standing → Bool → Reading ServerError → Step
put_words s begins read = if begins then words_at s read else Err Unasked

ok_is : {X E : Type 0} {x y : X} → (let r : Result X E = Ok x in r) ≡ Ok y → x ≡ y
ok_is h = cc

words_by : (s : Standing) (begins : Bool) (read : Reading ServerError) (event : Event) (after : Standing) →
    bidden s begins read ≡ Ok (event, after) →
    (error : ServerError) × (events.Farewell error ≡ event) × (put_words s begins read ≡ Ok (event, after))
words_by s true (Ok error) event after h = (error.0, ap (λ (x : Event × Standing). x.0) (ok_is h), h)
words_by s true (Err e) event after h = absurd (cc h)
words_by s false read event after h = absurd (cc h)

pub words_put : (s : Standing) (payload : List ℕ) → PutsAsRead s payload (words_step s payload)
words_put s payload event after e =
    let by = words_by s (begins_error payload) (early_error_at payload) event after e in
    subst (λ (said : Event). step_for said s payload ≡ Ok (event, after)) by.1 by.2
